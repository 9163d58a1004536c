mod Rounds
mod Marking
mod Folds
