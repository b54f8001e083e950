-- Lemmas on equations, inequalities and laws that are written.
pub mod Equations
pub mod ByLaw
