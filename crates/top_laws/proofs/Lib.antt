mod Words
mod Plainly
mod Statuses
mod ListLaws
mod Failures
mod Accessed
mod Counted
