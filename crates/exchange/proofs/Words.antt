-- The word that an action stops with, and that an action which is no such stop has none. Assumes nothing.
use mathlib.Core.Path.{◌≡◌, refl, sym, ap, ◌∙◌}
use mathlib.Core.Bool.{Bool, true, false}
use Rattle.rules.proofs.Tests.{never}
use Rattle.exchange.specs.declared.action.Action.{Action}
use Rattle.exchange.specs.declared.action.Word.{Word}
use Rattle.exchange.specs.Existing.{is_nothing, gives_up}

-- the word of a stop; another action has none of its own
abbrev pub word_of : Word → Action → Word
word_of none Action.Count = none
word_of none (Action.Argument k) = none
word_of none (Action.Open k) = none
word_of none (Action.Read k from to) = none
word_of none (Action.Rewind k) = none
word_of none (Action.Write n) = none
word_of none (Action.Stop word) = word

-- it says that there is an answer
abbrev pub is_answer : Word → Bool
is_answer Word.Complete = true
is_answer (Word.Refused r) = true
is_answer (Word.Nothing why) = false

-- the action is a stop with an answer
abbrev pub stops_well : Action → Bool
stops_well Action.Count = false
stops_well (Action.Argument k) = false
stops_well (Action.Open k) = false
stops_well (Action.Read k from to) = false
stops_well (Action.Rewind k) = false
stops_well (Action.Write n) = false
stops_well (Action.Stop word) = is_answer word

-- an action that is none is no such stop
pub no_stop : {A : Type 0} (a : Action) (word : Word) → stops_well a ≡ false → is_answer word ≡ true → a ≡ Action.Stop word → A
no_stop a word none some is = never (sym none ∙ ap stops_well is ∙ some)

-- a word that does not say that there is no answer says that there is one
something-answers : (word : Word) → is_nothing word ≡ false → is_answer word ≡ true
something-answers Word.Complete e = refl
something-answers (Word.Refused r) e = refl
something-answers (Word.Nothing why) e = never (sym e)

-- who stops and does not give up has an answer
pub answer-of : (a : Action) (word : Word) → gives_up a ≡ false → a ≡ Action.Stop word → is_answer word ≡ true
answer-of a word e is = something-answers word (ap gives_up (sym is) ∙ e)
