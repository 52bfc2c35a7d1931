mod Indexes
mod Weights
