pub mod Tests
pub mod Choosing
pub mod TwoPorts
pub mod BothEnds
pub mod Handed
