pub mod StoredIn
pub mod Place
pub mod ListLemmas
pub mod SlotLemmas
pub mod UriLemmas
pub mod RoomLemmas
