mod Prefixes
mod Runs
mod Tables
mod Numbers
mod Utf8
mod Meanings
mod Contents
mod Covers
mod Words
mod Numerals
mod NumeralsStand
mod Symbols
mod Texts
mod Recognised
pub mod Streams
pub mod LineFree
pub mod CutLaws
mod CutSteps
pub mod Totals
pub mod ExprTreeLaws
mod FormedSamples
