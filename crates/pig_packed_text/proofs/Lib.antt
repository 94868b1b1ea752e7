mod Front
mod Joined
mod Lines
mod Rows
