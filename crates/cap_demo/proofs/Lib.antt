mod Capabilities
mod Drawing
mod Folding
mod Lengths
mod Placing
mod Sizes
