mod Started
mod Placed
