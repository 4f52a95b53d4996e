pub mod Damage
pub mod Linear
pub mod Moves
pub mod Pairs
pub mod Xor
