-- What the C sizing screen is handed: an answer of document 01 as three numbers.
use Rattle.std.specs.Prelude.{ℕ}
use Rattle.rules.specs.Answers.{Answer, accepted, refused}
use Rattle.sizing.specs.declared.SizingAnswer.{SizingAnswer}

-- number 0 and the value, or the number and the place of the refusal
abbrev pub screen_answer : Answer ℕ → SizingAnswer
screen_answer (accepted value) = record { number = 0; place = 0; value = value }
screen_answer (refused number place) = record { number = number; place = place; value = 0 }

-- a file check has no value
abbrev pub screen_verdict : Answer (Unit {0}) → SizingAnswer
screen_verdict (accepted u) = record { number = 0; place = 0; value = 0 }
screen_verdict (refused number place) = record { number = number; place = place; value = 0 }
