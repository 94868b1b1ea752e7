mod TaskCounts
mod Standing
mod Counted
mod Samples
