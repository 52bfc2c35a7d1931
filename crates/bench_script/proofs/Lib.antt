pub mod Words
mod Pieces
mod GoodLines
mod Meetings
mod RoundSteps
mod RoundReplies
mod OneALine
mod LastCommits
mod Walks
