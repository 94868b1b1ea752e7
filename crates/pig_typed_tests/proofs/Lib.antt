mod ExprSamples
mod BlockSamples
