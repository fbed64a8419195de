-- The lines and the seconds of a turn, and the turns.
pub mod LineLaws
pub mod TurnLaws
pub mod RowsTurn
pub mod PhaseTurns
pub mod CallLaws
pub mod Program
pub mod Function
