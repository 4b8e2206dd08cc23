pub mod Boards
mod Looks
