-- The file of a station record is read back as that record, where its counts and values are in rule and what is past the
-- counts is zero. Assumes nothing.
use Prim.Native.Nat.{ℕ, zero, suc, ◌+◌, ◌-◌, ◌*◌, ◌^◌, ◌≤◌, ◌<◌}
use mathlib.Core.Path.{◌≡◌, refl, sym, ap, ap₂, ◌∙◌}
use mathlib.Core.Bool.{Bool, true}
use mathlib.Core.List.{List, [], ◌∷◌, ◌++◌, append_assoc, append-nil}
use native.Mathlib.Omega.{arith}
use lib.Dec.{ltb, eqb}
use lib.ListN.{length, get_or, take, drop, replicate, length-append, length-take, length-drop, take-append-drop}
use lib.Seq.{drop_at, drop-drop}
use borrow.Author.Tests.{eq-eqb, eqb-true}
use Rattle.rules.specs.declared.station.GenSet.{GenSet}
use Rattle.rules.specs.declared.station.Station.{Station}
use Rattle.rules.specs.Numbers.{within, existing_only, every, all_zero}
use Rattle.rules.specs.Bytes.{little, littles, bytes_of, bytes_of_all}
use Rattle.rules.specs.Answers.{Answer, accepted, need, ◌>>◌}
use Rattle.rules.specs.StationRecord.{no_set, set_right, pairs_right, configuration_right, sets_right, configurations_right, values_right, set_unused, unused_rules, some_file_gives}
use Rattle.rules.specs.StationFile.{kind_at, count_at, offset_at, sets_kind, set_size, control_offset, battery_offset, sets_offset, configs_offset, entry_right, control_of, battery_of, set_of, sets_of, record_of, contents_right, station_file, control_numbers, set_numbers, sets_bytes, contents_bytes, battery_bytes, file_of}
use Rattle.rules.proofs.Tests.{both, and-true, all-at, fact-within}
use Rattle.rules.proofs.Checks.{passes, passed}
use Rattle.rules.proofs.LittleEndian.{AllBelow, length-all, reads-back, read-back-all}
use Rattle.rules.proofs.Shapes.{ShapedSets, Shaped}
use Rattle.rules.proofs.StationFacts.{Right, right_of, mask_below, control-fits, rating-fits, contents-fit, set-fits}

-- ---- the shape of a part of the sets

shaped-take : (n : ℕ) (gs : List GenSet) → ShapedSets gs → ShapedSets (take n gs)
shaped-take zero gs h = tt
shaped-take (suc n) [] h = tt
shaped-take (suc n) (g ∷ gs) h = (h.0, h.1, shaped-take n gs h.2)

shaped-drop : (n : ℕ) (gs : List GenSet) → ShapedSets gs → ShapedSets (drop n gs)
shaped-drop zero gs h = h
shaped-drop (suc n) [] h = tt
shaped-drop (suc n) (g ∷ gs) h = shaped-drop n gs h.2

-- a list of five numbers, by its places
five : (xs : List ℕ) → length xs ≡ 5 → get_or xs 0 0 ∷ get_or xs 1 0 ∷ get_or xs 2 0 ∷ get_or xs 3 0 ∷ get_or xs 4 0 ∷ [] ≡ xs
five [] h = absurd (omega arith)
five (a ∷ []) h = absurd (omega arith)
five (a ∷ b ∷ []) h = absurd (omega arith)
five (a ∷ b ∷ c ∷ []) h = absurd (omega arith)
five (a ∷ b ∷ c ∷ d ∷ []) h = absurd (omega arith)
five (a ∷ b ∷ c ∷ d ∷ e ∷ []) h = refl
five (a ∷ b ∷ c ∷ d ∷ e ∷ f ∷ r) h = absurd (omega arith)

-- ---- a set's bytes are read back

set_back : (g : GenSet) → length g.loads ≡ 5 → length g.rates ≡ 5 → set_of (set_numbers g) ≡ g
set_back g h k =
    λ i. record {
      rating = g.rating;
      warmup = g.warmup;
      cooldown = g.cooldown;
      interval = g.interval;
      service = g.service;
      points = g.points;
      loads = five g.loads h i;
      rates = five g.rates k i;
    }

-- every set's checks passed
abbrev RightSets : List GenSet → Type 0
RightSets [] = Unit {0}
RightSets (g ∷ gs) = (set_right g ≡ true) × (pairs_right g ≡ true) × RightSets gs

right-sets : (n : ℕ) (gs : List GenSet) → sets_right n gs ≡ accepted tt → RightSets gs
unfolding sets_right
right-sets n [] h = tt
right-sets n (g ∷ gs) h =
    let a = passed (set_right g) 6 (suc n) (need (pairs_right g) 7 (suc n) >> sets_right (suc n) gs) tt h in
    let b = passed (pairs_right g) 7 (suc n) (sets_right (suc n) gs) tt a.1 in
    (a.0, b.0, right-sets (suc n) gs b.1)

sets-back : (gs : List GenSet) (rest : List ℕ) → RightSets gs → ShapedSets gs → sets_of (length gs) (sets_bytes gs ++ rest) ≡ gs
unfolding sets_of sets_bytes
sets-back [] rest h k = refl
sets-back (g ∷ gs) rest h k =
    let e : littles 4 16 (bytes_of_all 4 (set_numbers g) ++ (sets_bytes gs ++ rest)) ≡ set_numbers g = read-back-all 4 (set_numbers g) (sets_bytes gs ++ rest) (set-fits g h.0 h.1) in
    let d : drop 64 (bytes_of_all 4 (set_numbers g) ++ (sets_bytes gs ++ rest)) ≡ sets_bytes gs ++ rest = drop_at (bytes_of_all 4 (set_numbers g)) (sets_bytes gs ++ rest) 64 (length-all 4 (set_numbers g)) in
    rw (append_assoc (bytes_of_all 4 (set_numbers g)) (sets_bytes gs) rest, e, d, set_back g k.0 k.1, sets-back gs rest h.2 k.2)

-- ---- the masks are bytes

masks-fit : (setcount n : ℕ) (masks : List ℕ) → setcount ≤ 8 → configurations_right setcount n masks ≡ accepted tt → AllBelow (256 ^ 1) masks
unfolding configurations_right
masks-fit setcount n [] h e = tt
masks-fit setcount n (m ∷ masks) h e =
    let a = passed (configuration_right setcount m) 8 (suc n) (configurations_right setcount (suc n) masks) tt e in
    (mask_below setcount m h (both (ltb 0 m) (existing_only setcount m) a.0).1, masks-fit setcount (suc n) masks h a.1)

-- ---- what is past the counts

zero-list : (xs : List ℕ) → all_zero xs ≡ true → xs ≡ replicate (length xs) 0
unfolding every
zero-list [] h = refl
zero-list (x ∷ xs) h =
    let t = both (eqb x 0) (all_zero xs) h in
    let e : x ≡ 0 = eqb-true x 0 t.0 in
    rw (e, ← (zero-list xs t.1))

unused-set : (g : GenSet) → length g.loads ≡ 5 → length g.rates ≡ 5 → set_unused g ≡ true → g ≡ no_set
unfolding no_set
unused-set g h k u =
    let loads : g.loads ≡ replicate 5 0 = zero-list g.loads (all-at (unused_rules g) 6 u) ∙ ap (λ (n : ℕ). replicate n 0) h in
    let rates : g.rates ≡ replicate 5 0 = zero-list g.rates (all-at (unused_rules g) 7 u) ∙ ap (λ (n : ℕ). replicate n 0) k in
    λ i. record {
      rating = eqb-true g.rating 0 (all-at (unused_rules g) 0 u) i;
      warmup = eqb-true g.warmup 0 (all-at (unused_rules g) 1 u) i;
      cooldown = eqb-true g.cooldown 0 (all-at (unused_rules g) 2 u) i;
      interval = eqb-true g.interval 0 (all-at (unused_rules g) 3 u) i;
      service = eqb-true g.service 0 (all-at (unused_rules g) 4 u) i;
      points = eqb-true g.points 0 (all-at (unused_rules g) 5 u) i;
      loads = loads i;
      rates = rates i;
    }

unused-sets : (gs : List GenSet) → ShapedSets gs → every set_unused gs ≡ true → gs ≡ replicate (length gs) no_set
unfolding every
unused-sets [] h u = refl
unused-sets (g ∷ gs) h u =
    let t = both (set_unused g) (every set_unused gs) u in
    ap₂ ◌∷◌ (unused-set g h.0 h.1 t.0) (unused-sets gs h.2 t.1)

-- the first n of a list that has m, with what fills the rest
refilled : {A : Type 0} (xs : List A) (n m : ℕ) (a : A) → length xs ≡ m → drop n xs ≡ replicate (length (drop n xs)) a → take n xs ++ replicate (m - n) a ≡ xs
refilled {A = A} xs n m a h e =
    let k : length (drop n xs) ≡ m - n = length-drop n xs ∙ ap (λ (l : ℕ). l - n) h in
    ap (λ (l : ℕ). take n xs ++ replicate l a) (sym k) ∙ ap (λ (r : List A). take n xs ++ r) (sym e) ∙ take-append-drop n xs

-- an entry that has its kind, a count in its range and its offset
entry-right : (s : List ℕ) (i kind count offset least most : ℕ) → kind_at s i ≡ kind → count_at s i ≡ count → offset_at s i ≡ offset → least ≤ count → count ≤ most → entry_right s i kind least most offset ≡ true
unfolding entry_right
entry-right s i kind count offset least most a b c p q =
    and-true (and-true (eq-eqb (kind_at s i) kind a) (rw b (fact-within least most count p q))) (eq-eqb (offset_at s i) offset c)

length-sets : (gs : List GenSet) → length (sets_bytes gs) ≡ set_size * length gs
unfolding sets_bytes
length-sets [] = refl
length-sets (g ∷ gs) =
    rw (length-append (bytes_of_all 4 (set_numbers g)) (sets_bytes gs), length-all 4 (set_numbers g), length-sets gs) (omega arith)

-- ---- the contents of a file, whatever follows them

module _ (n m : ℕ) (rest : List ℕ) where
  abbrev headed : List ℕ
  headed = contents_bytes n m ++ rest

  entry-0 : entry_right headed 0 1 1 1 control_offset ≡ true
  unfolding entry_right contents_bytes bytes_of little
  entry-0 = refl

  entry-1 : entry_right headed 1 2 1 1 battery_offset ≡ true
  unfolding entry_right contents_bytes bytes_of little
  entry-1 = refl

  count-2 : n < 65536 → count_at headed 2 ≡ n
  unfolding contents_bytes bytes_of little
  count-2 h = reads-back 2 n [] h

  count-3 : m < 65536 → count_at headed 3 ≡ m
  unfolding contents_bytes bytes_of little
  count-3 h = reads-back 2 m [] h

  kind_2 : kind_at headed 2 ≡ sets_kind
  unfolding contents_bytes bytes_of little
  kind_2 = refl

  offset-2 : offset_at headed 2 ≡ sets_offset
  unfolding contents_bytes bytes_of little
  offset-2 = refl

  entry-2 : 1 ≤ n → n ≤ 8 → entry_right headed 2 sets_kind 1 8 sets_offset ≡ true
  entry-2 p q = entry-right headed 2 sets_kind n sets_offset 1 8 kind_2 (count-2 (omega arith)) offset-2 p q

  kind_3 : kind_at headed 3 ≡ 4
  unfolding contents_bytes bytes_of little
  kind_3 = refl

  offset-3 : n ≤ 8 → offset_at headed 3 ≡ configs_offset n
  unfolding contents_bytes bytes_of little
  offset-3 l = reads-back 4 (configs_offset n) [] (omega arith)

  entry-3 : n ≤ 8 → 1 ≤ m → m ≤ 64 → entry_right headed 3 4 1 64 (configs_offset n) ≡ true
  entry-3 l p q = entry-right headed 3 4 m (configs_offset n) 1 64 kind_3 (count-3 (omega arith)) (offset-3 l) p q

-- ---- the parts of the file of a record

module _ (st : Station) (shaped : Shaped st) (h : some_file_gives st ≡ true) where
  abbrev n : ℕ
  n = st.setcount

  abbrev m : ℕ
  m = st.configcount

  right : Right st
  right = right_of st h

  n-range : (1 ≤ n) × (n ≤ 8)
  n-range = right.setcount

  m-range : (1 ≤ m) × (m ≤ 64)
  m-range = right.configcount

  abbrev contents : List ℕ
  contents = contents_bytes n m

  abbrev control : List ℕ
  control = bytes_of_all 4 (control_numbers st.control)

  abbrev rating : List ℕ
  rating = bytes_of_all 4 (st.battery.power ∷ st.battery.efficiency ∷ [])

  abbrev stored : List ℕ
  stored = bytes_of_all 8 (st.battery.least ∷ st.battery.most ∷ st.battery.start ∷ [])

  abbrev sets : List ℕ
  sets = sets_bytes (take n st.sets)

  abbrev masks : List ℕ
  masks = bytes_of_all 1 (take m st.configs)

  laid : file_of st ≡ contents ++ (control ++ (rating ++ (stored ++ (sets ++ masks))))
  unfolding file_of battery_bytes
  laid = simp append_assoc

  -- what follows each part
  abbrev after_stored : List ℕ
  after_stored = sets ++ masks

  abbrev after_rating : List ℕ
  after_rating = stored ++ after_stored

  abbrev after_control : List ℕ
  after_control = rating ++ after_rating

  at-control : drop 32 (file_of st) ≡ control ++ after_control
  unfolding contents_bytes bytes_of
  at-control = ap (drop 32) laid ∙ drop_at contents (control ++ after_control) 32 refl

  at-battery : drop 68 (file_of st) ≡ after_control
  at-battery = sym (drop-drop 36 32 (file_of st)) ∙ ap (drop 36) at-control ∙ drop_at control after_control 36 (length-all 4 (control_numbers st.control))

  at_stored : drop 76 (file_of st) ≡ after_rating
  at_stored = sym (drop-drop 8 68 (file_of st)) ∙ ap (drop 8) at-battery ∙ drop_at rating after_rating 8 (length-all 4 (st.battery.power ∷ st.battery.efficiency ∷ []))

  at-sets : drop 100 (file_of st) ≡ after_stored
  at-sets = sym (drop-drop 24 76 (file_of st)) ∙ ap (drop 24) at_stored ∙ drop_at stored after_stored 24 (length-all 8 (st.battery.least ∷ st.battery.most ∷ st.battery.start ∷ []))

  set-count : length (take n st.sets) ≡ n
  set-count = simp length-take (omega (arith, shaped.sets-length, n-range))

  mask-count : length (take m st.configs) ≡ m
  mask-count = simp length-take (omega (arith, shaped.configs-length, m-range))

  sets-size : length sets ≡ set_size * n
  sets-size = length-sets (take n st.sets) ∙ ap (λ (k : ℕ). set_size * k) set-count

  at-masks : drop (configs_offset n) (file_of st) ≡ masks
  at-masks = sym (drop-drop (set_size * n) 100 (file_of st)) ∙ ap (drop (set_size * n)) at-sets ∙ drop_at sets masks (set_size * n) sets-size

  contents-size : length contents ≡ 32
  unfolding contents_bytes bytes_of
  contents-size = refl

  file-size : length (file_of st) ≡ configs_offset n + m
  file-size =
      let a : length control ≡ 36 = length-all 4 (control_numbers st.control) in
      let b : length rating ≡ 8 = length-all 4 (st.battery.power ∷ st.battery.efficiency ∷ []) in
      let c : length stored ≡ 24 = length-all 8 (st.battery.least ∷ st.battery.most ∷ st.battery.start ∷ []) in
      let d : length masks ≡ 1 * length (take m st.configs) = length-all 1 (take m st.configs) in
      ap length laid ∙ simp length-append (omega (arith, contents-size, sets-size, mask-count))

  -- ---- and the record that they give

  control-back : control_of (littles 4 9 (drop 32 (file_of st))) ≡ st.control
  control-back = ap (λ (s : List ℕ). control_of (littles 4 9 s)) at-control ∙ ap control_of (read-back-all 4 (control_numbers st.control) after_control (control-fits n st.control right.control n-range.1))

  battery-back : battery_of (littles 4 2 (drop 68 (file_of st))) (littles 8 3 (drop 76 (file_of st))) ≡ st.battery
  battery-back =
      let a : littles 4 2 (drop 68 (file_of st)) ≡ st.battery.power ∷ st.battery.efficiency ∷ [] =
      ap (littles 4 2) at-battery ∙ read-back-all 4 (st.battery.power ∷ st.battery.efficiency ∷ []) after_rating (rating-fits st.battery right.battery) in
      let b : littles 8 3 (drop 76 (file_of st)) ≡ st.battery.least ∷ st.battery.most ∷ st.battery.start ∷ [] =
      ap (littles 8 3) at_stored ∙ read-back-all 8 (st.battery.least ∷ st.battery.most ∷ st.battery.start ∷ []) after_stored (contents-fit st.battery right.battery) in
      ap₂ battery_of a b

  sets-given : sets_of n (drop 100 (file_of st)) ++ replicate (8 - n) no_set ≡ st.sets
  sets-given =
      let a : sets_of n (drop 100 (file_of st)) ≡ take n st.sets =
      ap (sets_of n) at-sets
      ∙ ap (λ (k : ℕ). sets_of k after_stored) (sym set-count)
      ∙ sets-back (take n st.sets) masks (right-sets 0 (take n st.sets) right.sets) (shaped-take n st.sets shaped.curves) in
      ap (λ (gs : List GenSet). gs ++ replicate (8 - n) no_set) a
      ∙ refilled st.sets n 8 no_set shaped.sets-length (unused-sets (drop n st.sets) (shaped-drop n st.sets shaped.curves) right.unused)

  masks-given : littles 1 m (drop (configs_offset n) (file_of st)) ++ replicate (64 - m) 0 ≡ st.configs
  masks-given =
      let a : littles 1 m (drop (configs_offset n) (file_of st)) ≡ take m st.configs =
      ap (littles 1 m) (at-masks ∙ sym (append-nil masks))
      ∙ ap (λ (k : ℕ). littles 1 k (masks ++ [])) (sym mask-count)
      ∙ read-back-all 1 (take m st.configs) [] (masks-fit n 0 (take m st.configs) n-range.1 right.configs) in
      ap (λ (ms : List ℕ). ms ++ replicate (64 - m) 0) a
      ∙ refilled st.configs m 64 0 shaped.configs-length (zero-list (drop m st.configs) right.zero)

  -- the counts as the contents give them
  n-read : count_at (file_of st) 2 ≡ n
  n-read = ap (λ (s : List ℕ). count_at s 2) laid ∙ count-2 n m (control ++ after_control) (omega (arith, n-range))

  m-read : count_at (file_of st) 3 ≡ m
  m-read = ap (λ (s : List ℕ). count_at s 3) laid ∙ count-3 n m (control ++ after_control) (omega (arith, m-range))

  record-back : record_of (file_of st) ≡ st
  unfolding record_of
  record-back =
      let s : List ℕ = file_of st in
      let gs : sets_of (count_at s 2) (drop 100 s) ++ replicate (8 - count_at s 2) no_set ≡ st.sets =
      ap (λ (k : ℕ). sets_of k (drop 100 s) ++ replicate (8 - k) no_set) n-read ∙ sets-given in
      let ms : littles 1 (count_at s 3) (drop (configs_offset (count_at s 2)) s) ++ replicate (64 - count_at s 3) 0 ≡ st.configs =
      ap₂ (λ (j k : ℕ). littles 1 k (drop (configs_offset j) s) ++ replicate (64 - k) 0) n-read m-read ∙ masks-given in
      λ i. record {
        control = control-back i;
        battery = battery-back i;
        setcount = n-read i;
        configcount = m-read i;
        sets = gs i;
        configs = ms i;
      }

  contents-back : contents_right (file_of st) ≡ accepted tt
  unfolding contents_right
  contents-back =
      let s : List ℕ = file_of st in
      let rest : List ℕ = control ++ after_control in
      let size : within 165 676 (length s) ≡ true = fact-within 165 676 (length s) (omega (arith, file-size, n-range, m-range)) (omega (arith, file-size, n-range, m-range)) in
      let e0 : entry_right s 0 1 1 1 32 ≡ true = ap (λ (x : List ℕ). entry_right x 0 1 1 1 32) laid ∙ entry-0 n m rest in
      let e1 : entry_right s 1 2 1 1 68 ≡ true = ap (λ (x : List ℕ). entry_right x 1 2 1 1 68) laid ∙ entry-1 n m rest in
      let e2 : entry_right s 2 3 1 8 100 ≡ true = ap (λ (x : List ℕ). entry_right x 2 3 1 8 100) laid ∙ entry-2 n m rest n-range.0 n-range.1 in
      let e3 : entry_right s 3 4 1 64 (configs_offset (count_at s 2)) ≡ true =
      ap₂ (λ (x : List ℕ) (k : ℕ). entry_right x 3 4 1 64 (configs_offset k)) laid n-read ∙ entry-3 n m rest n-range.1 m-range.0 m-range.1 in
      let whole : eqb (length s) (configs_offset (count_at s 2) + count_at s 3) ≡ true =
      eq-eqb (length s) (configs_offset (count_at s 2) + count_at s 3) (file-size ∙ sym (ap₂ (λ (j k : ℕ). configs_offset j + k) n-read m-read)) in
      passes (within 165 676 (length s)) 1 0 _ size
      ∙ (passes (entry_right s 0 1 1 1 32) 2 1 _ e0
      ∙ (passes (entry_right s 1 2 1 1 68) 2 2 _ e1
      ∙ (passes (entry_right s 2 3 1 8 100) 2 3 _ e2
      ∙ (passes (entry_right s 3 4 1 64 (configs_offset (count_at s 2))) 2 4 _ e3
      ∙ ap (λ (b : Bool). need b 3 0) whole))))

  -- the file of a record is read back as that record
  pub read_back : station_file (file_of st) ≡ accepted st
  unfolding station_file
  read_back =
      ap (λ (c : Answer (Unit {0})). c >> (values_right (record_of (file_of st)) >> accepted (record_of (file_of st)))) contents-back
      ∙ (ap (λ (r : Station). values_right r >> accepted r) record-back
      ∙ ap (λ (c : Answer (Unit {0})). c >> accepted st) right.values)
