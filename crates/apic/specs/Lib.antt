pub mod LocalApic
pub mod Active
pub mod Figures
