pub mod Parts
pub mod PartsLaws
pub mod TextsLaws
pub mod Copied
pub mod Readable
pub mod ValuesLaws
pub mod Laws
