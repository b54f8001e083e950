pub mod Equating
pub mod Injecting
pub mod Instancing
pub mod IntroTrue
pub mod Splitting
pub mod Taking
