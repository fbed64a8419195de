-- What is owed of a text in a lent buffer, a row's numbers, the line of a set, and the line that is a whole answer.
pub mod Written
pub mod RowNumbers
pub mod SetLine
pub mod AnswerLine
