mod Followed
mod Joined
mod LinesOnce
mod Steps
