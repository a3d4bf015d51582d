pub mod Pillars
pub mod Laws
pub mod Measures
pub mod Chains
pub mod Marked
pub mod Along
pub mod StepsLaws
pub mod TiedLaws
