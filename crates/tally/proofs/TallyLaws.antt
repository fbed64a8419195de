-- The tally of bytes one after the other, and of four bytes as a word. Assumes nothing.
use Rattle.std.proofs.Common.{◌≡◌, ℕ, zero, suc, ◌+◌, ◌*◌, ◌%◌, ◌<◌, ◌≤◌, List, [], ◌∷◌, ◌++◌, length, get_or, drop, sym, refl, ap, ◌∙◌, add-one, arith, append_assoc, drop_of_length-le, drop-cons}
use lib.ListN.{take, take-append-drop}
use lib.Seq.{drop-drop}
use Rattle.std.specs.Simd.{first_chunks}
use Rattle.tally.specs.declared.Tally.{Tally}
use Rattle.tally.specs.Tally.{modulus, worth, at_word_end, with_byte, tallied_of, bytes_of, WordsTallied}

-- the byte at place i more
pub tally-turn : (whole t : Tally) (s : List ℕ) (i : ℕ) → i < length s → whole ≡ tallied_of t (drop i s)
    → whole ≡ tallied_of (with_byte t (get_or s i 0)) (drop (i + 1) s)
unfolding tallied_of
tally-turn whole t s i h e = rw (add-one i) (e ∙ ap (tallied_of t) (drop-cons s i 0 h))

tally-next : (whole t : Tally) (s : List ℕ) (i j : ℕ) → i < length s → i + 1 ≡ j → whole ≡ tallied_of t (drop i s)
    → whole ≡ tallied_of (with_byte t (get_or s i 0)) (drop j s)
tally-next whole t s i j h n e = rw n at (tally-turn whole t s i h e)

pub tally-end : (t : Tally) (s : List ℕ) (i : ℕ) → length s ≤ i → tallied_of t (drop i s) ≡ t
unfolding tallied_of
tally-end t s i h = ap (tallied_of t) (drop_of_length-le s h)

-- ---- words, over plain numbers

pub worth-last : (place byte : ℕ) → 3 ≤ place → byte * 16777216 ≡ worth place byte
unfolding worth
worth-last zero byte h = omega (arith, h)
worth-last (suc zero) byte h = omega (arith, h)
worth-last (suc (suc zero)) byte h = omega (arith, h)
worth-last (suc (suc (suc _))) byte h = refl

pub at-word-end-early : (place sum : ℕ) → place ≤ 2 → 0 ≡ at_word_end place sum
unfolding at_word_end
at-word-end-early zero sum h = refl
at-word-end-early (suc zero) sum h = refl
at-word-end-early (suc (suc zero)) sum h = refl
at-word-end-early (suc (suc (suc _))) sum h = omega (arith, h)

pub at-word-end-last : (place sum : ℕ) → 3 ≤ place → sum ≡ at_word_end place sum
unfolding at_word_end
at-word-end-last zero sum h = omega (arith, h)
at-word-end-last (suc zero) sum h = omega (arith, h)
at-word-end-last (suc (suc zero)) sum h = omega (arith, h)
at-word-end-last (suc (suc (suc _))) sum h = refl

abbrev tally : ℕ → ℕ → ℕ → Tally
tally count sum sums = record { count = count; sum = sum; sums = sums }

next_place : (n k : ℕ) → n % 4 ≡ k → k < 3 → (n + 1) % modulus % 4 ≡ k + 1
next_place n k e h = omega (arith, e, h)

-- the byte at each place of a word
byte-first : (n s t b : ℕ) → n % 4 ≡ 0 → with_byte (tally n s t) b ≡ tally ((n + 1) % modulus) ((s + b) % modulus) ((t + 0) % modulus)
unfolding with_byte worth at_word_end
byte-first n s t b e = rw e

byte-second : (n s t b : ℕ) → n % 4 ≡ 1 → with_byte (tally n s t) b ≡ tally ((n + 1) % modulus) ((s + b * 256) % modulus) ((t + 0) % modulus)
unfolding with_byte worth at_word_end
byte-second n s t b e = rw e

byte-third : (n s t b : ℕ) → n % 4 ≡ 2 → with_byte (tally n s t) b ≡ tally ((n + 1) % modulus) ((s + b * 65536) % modulus) ((t + 0) % modulus)
unfolding with_byte worth at_word_end
byte-third n s t b e = rw e

byte-fourth : (n s t b : ℕ) → n % 4 ≡ 3 → with_byte (tally n s t) b ≡ tally ((n + 1) % modulus) ((s + b * 16777216) % modulus) ((t + (s + b * 16777216) % modulus) % modulus)
unfolding with_byte worth at_word_end
byte-fourth n s t b e = rw e

four_bytes : (n : ℕ) → ((((n + 1) % modulus + 1) % modulus + 1) % modulus + 1) % modulus ≡ (n + 4) % modulus
four_bytes n = omega arith

two-more : (s a b : ℕ) → ((s + a) % modulus + b) % modulus ≡ (s + (a + b)) % modulus
two-more s a b = omega arith

word_sum : (s a b c d : ℕ) → ((((s + a) % modulus + b * 256) % modulus + c * 65536) % modulus + d * 16777216) % modulus ≡ (s + (a + b * 256 + c * 65536 + d * 16777216)) % modulus
word_sum s a b c d = rw (two-more s a (b * 256), two-more s (a + b * 256) (c * 65536), two-more s (a + b * 256 + c * 65536) (d * 16777216))

word-sums : (t u : ℕ) → ((((t + 0) % modulus + 0) % modulus + 0) % modulus + u) % modulus ≡ (t + u) % modulus
word-sums t u = omega arith

-- the four bytes of a word
word_bytes : (n s t a b c d : ℕ) → n % 4 ≡ 0 → with_byte (with_byte (with_byte (with_byte (tally n s t) a) b) c) d
    ≡ tally ((n + 4) % modulus) ((s + (a + b * 256 + c * 65536 + d * 16777216)) % modulus) ((t + (s + (a + b * 256 + c * 65536 + d * 16777216)) % modulus) % modulus)
word_bytes n s t a b c d e =
    let e₁ : (n + 1) % modulus % 4 ≡ 1 = next_place n 0 e (omega arith) in
    let e₂ : ((n + 1) % modulus + 1) % modulus % 4 ≡ 2 = next_place _ 1 e₁ (omega arith) in
    let e₃ : (((n + 1) % modulus + 1) % modulus + 1) % modulus % 4 ≡ 3 = next_place _ 2 e₂ (omega arith) in
    rw (byte-first n s t a e, byte-second _ _ _ b e₁, byte-third _ _ _ c e₂, byte-fourth _ _ _ d e₃, four_bytes n, word_sum s a b c d, word-sums t)

-- a word whose bytes are read at once
pub tally-word : (t : Tally) (word : List ℕ) (n m k : ℕ) → length word ≡ 4
    → m ≡ (t.sum + (get_or word 0 0 + get_or word 1 0 * 256 + get_or word 2 0 * 65536 + get_or word 3 0 * 16777216)) % modulus → n ≡ (t.count + 4) % modulus → k ≡ (t.sums + m) % modulus
    → WordsTallied t word (tally n m k)
unfolding tallied_of
tally-word t (a ∷ b ∷ c ∷ d ∷ []) n m k size em en ek e = (rw (ek, em, en) (sym (word_bytes t.count t.sum t.sums a b c d e)), omega (arith, en, e))
tally-word t [] n m k size em en ek e = absurd (omega (arith, size))
tally-word t (a ∷ []) n m k size em en ek e = absurd (omega (arith, size))
tally-word t (a ∷ b ∷ []) n m k size em en ek e = absurd (omega (arith, size))
tally-word t (a ∷ b ∷ c ∷ []) n m k size em en ek e = absurd (omega (arith, size))
tally-word t (a ∷ b ∷ c ∷ d ∷ f ∷ _) n m k size em en ek e = absurd (omega (arith, size))

-- bytes and then others are tallied as all of them
pub tallied-append : (t : Tally) (s more : List ℕ) → tallied_of t (s ++ more) ≡ tallied_of (tallied_of t s) more
unfolding tallied_of
tallied-append t [] more = refl
tallied-append t (byte ∷ s) more = tallied-append (with_byte t byte) s more

-- the word at place i more
pub words-turn : (whole t u : Tally) (words : List (List ℕ)) (i : ℕ) (d : List ℕ) → i < length words → whole ≡ tallied_of t (bytes_of (drop i words)) → u ≡ tallied_of t (get_or words i d)
    → whole ≡ tallied_of u (bytes_of (drop (i + 1) words))
words-turn whole t u words i d h e is =
    rw (add-one i)
    (e ∙ ap (λ (l : List (List ℕ)). tallied_of t (bytes_of l)) (drop-cons words i d h) ∙ tallied-append t (get_or words i d) (bytes_of (drop (suc i) words))
    ∙ ap (λ (x : Tally). tallied_of x (bytes_of (drop (suc i) words))) (sym is))

pub words-end : (t : Tally) (words : List (List ℕ)) (i : ℕ) → length words ≤ i → tallied_of t (bytes_of (drop i words)) ≡ t
unfolding tallied_of
words-end t words i h = ap (λ (l : List (List ℕ)). tallied_of t (bytes_of l)) (drop_of_length-le words h)

-- the words that the library parts a list into, and the bytes behind them
pub words-joined : (k : ℕ) (s : List ℕ) → bytes_of (first_chunks 4 k s) ++ drop (k * 4) s ≡ s
words-joined zero s = refl
words-joined (suc k) s =
    let size : suc k * 4 ≡ 4 + k * 4 = omega arith in
    append_assoc (take 4 s) (bytes_of (first_chunks 4 k (drop 4 s))) (drop (suc k * 4) s)
    ∙ ap (λ (l : List ℕ). take 4 s ++ (bytes_of (first_chunks 4 k (drop 4 s)) ++ l)) (ap (λ (n : ℕ). drop n s) size ∙ sym (drop-drop (k * 4) 4 s))
    ∙ ap (λ (l : List ℕ). take 4 s ++ l) (words-joined k (drop 4 s)) ∙ take-append-drop 4 s

-- bytes in two parts, and in three
pub tally-two : (t a b : Tally) (s head rest : List ℕ) → head ++ rest ≡ s → a ≡ tallied_of t head → b ≡ tallied_of a rest → b ≡ tallied_of t s
tally-two t a b s head rest whole p q = q ∙ ap (λ (x : Tally). tallied_of x rest) p ∙ sym (tallied-append t head rest) ∙ ap (tallied_of t) whole

pub tally-parts : (t a b c : Tally) (s head rest words last : List ℕ) → head ++ rest ≡ s → words ++ last ≡ rest → a ≡ tallied_of t head → b ≡ tallied_of a words → c ≡ tallied_of b last → c ≡ tallied_of t s
tally-parts t a b c s head rest words last whole parts p q r = tally-two t a c s head rest whole p (tally-two a b c rest words last parts q r)
