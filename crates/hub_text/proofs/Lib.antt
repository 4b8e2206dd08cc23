pub mod Cuts
pub mod Numbers
pub mod FirstTextLine
pub mod EndLists
pub mod Carrying
