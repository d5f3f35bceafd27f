pub mod Offices
pub mod Reports
pub mod Texts
