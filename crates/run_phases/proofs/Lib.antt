-- What a beginning owes, and the room of a turn.
pub mod BeginLaws
pub mod RoomLaws
