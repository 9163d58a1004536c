mod Pairs
mod Fitting
