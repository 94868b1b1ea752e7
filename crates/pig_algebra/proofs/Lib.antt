mod Samples
mod CombiningSamples
mod Arguments
mod Combined
mod Folded
