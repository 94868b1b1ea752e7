mod Fitting
mod Copies
mod Cut
