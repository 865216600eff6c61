pub mod cut_admission
pub mod call
pub mod answer
