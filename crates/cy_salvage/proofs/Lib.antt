pub mod QuietParts
pub mod SalvageNamed
pub mod Salvaging
pub mod JoinedOnce
