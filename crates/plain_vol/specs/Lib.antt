pub mod Judging
pub mod Makings
pub mod Mends
pub use Rattle.plain_rules.specs.Accounts
