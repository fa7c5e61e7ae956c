pub mod Texts
pub mod Forms
pub mod Accounts
pub mod Inspected
pub mod RuleParts
pub mod WordPrograms
