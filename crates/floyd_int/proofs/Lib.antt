pub mod Modulo
pub mod KindLaws
pub mod OperationLaws
pub mod Wide
