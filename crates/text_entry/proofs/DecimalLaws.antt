-- Lines of decimals: that only their counts matter, and what they say of what a line stands for.
use Prim.Native.Nat.{ℕ, ◌≤◌, ◌<◌, ◌+◌, min}
use native.Mathlib.Numerals.{add-one}
use native.Mathlib.Decide.{dec_lt}
use native.Mathlib.Omega.{arith}
use mathlib.Core.Bool.{Bool, true, false, ◌||◌, cond, true≢false}
use mathlib.Core.List.{List, [], ◌∷◌, ◌++◌, append_assoc}
use mathlib.Core.Option as maybe
use mathlib.Core.Option.{none, some}
use mathlib.Core.Path.{◌≡◌, refl, sym, ◌∙◌, ap}
use borrow.Author.Tests.{eq-eqb, leb-false, lt-leb}
use Rattle.std.proofs.Common.{Bor, Err, None, Ok, Option, Result, Some, eqb}
use lib.ListN.{drop, get_or, length, set, take}
use lib.Seq.{drop-cons}
use Rattle.std.proofs.lemmas.List.{append-nil, drop_all, take_all, take_more, take_more_set}
use Rattle.text_entry.specs.declared.Unread.{Unread}
use Rattle.text_entry.specs.declared.Unread.TheVariants.{Unreadable, Outside}
use Rattle.text_entry.specs.Decimals.{byte_of, bytes_of, decimal_field, decimal_fields}
use Rattle.text_entry.specs.Fields.{Field, Kind, kind, named}
use Rattle.text_entry.specs.Parts.{front, kind_front, then_front, whole}
use Rattle.text_entry.specs.Seen.{capped}
use Rattle.text_entry.specs.Read.{after, is_end, part, read_field, read_kind, unreadable}
use Rattle.text_ascii.specs.Decimal.{byte_numbers}
use Rattle.text_entry.specs.Table.{Reader, any_beyond, answer_of, made, no_byte, read_as}
use Rattle.text_entry.proofs.Counts.{beyond_at, beyond_here, beyond_last, beyond_later, no_byte_lem}
use Rattle.text_entry.proofs.Fronts.{answer_to, begun, counts, line_whole, step, stop, unbegun}
use Rattle.text_entry.proofs.ReadsText.{line_text_lem}
use Rattle.text_entry.proofs.Table.{by_fields, elements}

-- numbers none of which is beyond a byte
none_1 : (a b : Bool) → (a || b) ≡ false → a ≡ false
none_1 true b h = h
none_1 false b h = refl

none_2 : (a b : Bool) → (a || b) ≡ false → b ≡ false
none_2 true b h = absurd (true≢false h)
none_2 false b h = h

abbrev pub AllFit : List ℕ → Type 0
AllFit [] = Unit {0}
AllFit (n ∷ ns) = (n < byte_numbers) × AllFit ns

pub all_fit : (ns : List ℕ) → any_beyond ns ≡ false → AllFit ns
all_fit [] h = tt
all_fit (n ∷ ns) h = (leb-false byte_numbers n (none_1 (no_byte n) (any_beyond ns) h), all_fit ns (none_2 (no_byte n) (any_beyond ns) h))

-- numbers that count up to `byte_numbers` only: one of them is beyond a byte, or they are the same
abbrev pub capped_all : List ℕ → List ℕ
capped_all [] = []
capped_all (n ∷ ns) = min n byte_numbers ∷ capped_all ns

capped_beyond : (ns : List ℕ) → any_beyond ns ≡ true → any_beyond (capped_all ns) ≡ true
capped_beyond [] h = h
capped_beyond (n ∷ ns) h = elim (dec_lt n byte_numbers) [
  | yes k ↦ beyond_later (min n byte_numbers) (capped_all ns) (capped_beyond ns (sym (ap (λ (b : Bool). b || any_beyond ns) (lt-leb byte_numbers n k)) ∙ h))
  | no k ↦ beyond_here (min n byte_numbers) (capped_all ns) (omega arith)
]

capped_fit : (ns : List ℕ) → AllFit ns → capped_all ns ≡ ns
capped_fit [] h = refl
capped_fit (n ∷ ns) h = let e : min n byte_numbers ≡ n = omega (arith, h.0) in λ i. e i ∷ capped_fit ns h.1 i

no_byte_counted : (n : ℕ) → no_byte n ≡ no_byte (min n byte_numbers)
no_byte_counted n = elim (dec_lt n byte_numbers) [
  | yes k ↦ ap no_byte (omega arith)
  | no k ↦ no_byte_lem n (omega arith) ∙ sym (no_byte_lem (min n byte_numbers) (omega arith))
]

-- they tell the same, where all that have a number beyond a byte have one result
pub capped_same : {R : Type 0} (f : List ℕ → R) (outside : R) (ns : List ℕ) → (any_beyond ns ≡ true → f ns ≡ outside) → (any_beyond (capped_all ns) ≡ true → f (capped_all ns) ≡ outside) → f ns ≡ f (capped_all ns)
capped_same f outside ns here there = go (any_beyond ns) refl
  where
    go : (b : Bool) → any_beyond ns ≡ b → f ns ≡ f (capped_all ns)
    go true h = here h ∙ sym (there (capped_beyond ns h))
    go false h = ap f (sym (capped_fit ns (all_fit ns h)))

-- ---- decimals read one after the other

-- values, and what stands behind them
abbrev pub behind : List ℕ → Option (List ℕ × List ℕ) → Option (List ℕ × List ℕ)
behind vs None = None
behind vs (Some x) = Some (vs ++ x.0, x.1)

pub behind_none : (o : Option (List ℕ × List ℕ)) → o ≡ behind [] o
behind_none None = refl
behind_none (Some x) = refl

behind_one : (vs : List ℕ) (n : ℕ) (o : Option (List ℕ × List ℕ)) → behind vs (then_front n o) ≡ behind (vs ++ n ∷ []) o
behind_one vs n None = refl
behind_one vs n (Some x) = λ i. Some (sym (append_assoc vs (n ∷ []) x.0) i, x.1)

-- the decimal at the place i
module _ (keys : List (Bor (List ℕ))) (i : ℕ) (s : List ℕ) (d : Bor (List ℕ)) (k : i < length keys) where
  here : decimal_fields (drop i keys) ≡ decimal_field (get_or keys i d).now ∷ decimal_fields (drop (i + 1) keys)
  here = let e : drop i keys ≡ get_or keys i d ∷ drop (i + 1) keys = drop-cons keys i d k ∙ rw add-one in ap decimal_fields e

  pub decimal_more : (ns : List ℕ) (n : ℕ) (t : List ℕ) → i < length ns → part n t ≡ capped (read_field (decimal_field (get_or keys i d).now) (part 0 s))
      → behind (take i ns) (front (decimal_fields (drop i keys)) (part 0 s)) ≡ behind (take (i + 1) (set ns i n)) (front (decimal_fields (drop (i + 1) keys)) (part 0 t))
  decimal_more ns n t l h =
      let more = front (decimal_fields (drop (i + 1) keys)) (part 0 t) in
      ap (λ (fs : List Field). behind (take i ns) (front fs (part 0 s))) here
      ∙ ap (behind (take i ns)) (step (decimal_field (get_or keys i d).now) (decimal_fields (drop (i + 1) keys)) s t n h refl)
      ∙ behind_one (take i ns) n more
      ∙ ap (λ (vs : List ℕ). behind vs more) (sym (take_more_set ns i n l))

  pub decimal_stops : (vs : List ℕ) → unreadable ≡ capped (read_field (decimal_field (get_or keys i d).now) (part 0 s))
      → behind vs (front (decimal_fields (drop i keys)) (part 0 s)) ≡ None
  decimal_stops vs h =
      ap (λ (fs : List Field). behind vs (front fs (part 0 s))) here
      ∙ ap (behind vs) (stop (decimal_field (get_or keys i d).now) (decimal_fields (drop (i + 1) keys)) s h)

-- all of them read
pub decimals_done : (keys : List (Bor (List ℕ))) (i : ℕ) (s ns : List ℕ) → length keys ≤ i → length ns ≤ i
    → whole (behind (take i ns) (front (decimal_fields (drop i keys)) (part 0 s))) ≡ cond (is_end s) (Some ns) None
unfolding front
decimals_done keys i s ns k l = rw (drop_all i keys k, take_all i ns l, append-nil ns) refl

-- ---- lines of decimals

-- only the counts matter
fields_counted : (keys : List (Bor (List ℕ))) (vs : List ℕ) → any_beyond vs ≡ any_beyond (counts (decimal_fields keys) vs)
fields_counted [] vs = refl
fields_counted (key ∷ keys) [] = refl
fields_counted (key ∷ keys) (v ∷ vs) =
    ap (λ (b : Bool). no_byte v || b) (fields_counted keys vs) ∙ ap (λ (b : Bool). b || any_beyond (counts (decimal_fields keys) vs)) (no_byte_counted v)

fields_fit : (keys : List (Bor (List ℕ))) (vs : List ℕ) → AllFit vs → counts (decimal_fields keys) vs ≡ vs
fields_fit [] vs h = refl
fields_fit (key ∷ keys) [] h = refl
fields_fit (key ∷ keys) (v ∷ vs) h = let e : min v byte_numbers ≡ v = omega (arith, h.0) in λ i. e i ∷ fields_fit keys vs h.1 i

pub bytes_counted : (keys : List (Bor (List ℕ))) (vs : List ℕ) → bytes_of (some vs) ≡ bytes_of (some (counts (decimal_fields keys) vs))
bytes_counted keys vs = go (any_beyond vs) refl
  where
    go : (b : Bool) → any_beyond vs ≡ b → bytes_of (some vs) ≡ bytes_of (some (counts (decimal_fields keys) vs))
    go true h = rw (h, sym (fields_counted keys vs) ∙ h)
    go false h = ap (λ (us : List ℕ). bytes_of (some us)) (sym (fields_fit keys vs (all_fit vs h)))

-- the answer to a line of decimals
module _ (name : List ℕ) (keys : List (Bor (List ℕ))) (s : List ℕ) where
  abbrev decimal_kind : Kind
  decimal_kind = kind name (decimal_fields keys)

  line_decimals : answer_to bytes_of (whole (kind_front decimal_kind s)) ≡ bytes_of (read_kind decimal_kind s)
  line_decimals = line_whole decimal_kind bytes_of (bytes_counted keys) s

  pub unnamed : unreadable ≡ after (named name) (part 0 s) → Err Unreadable ≡ bytes_of (read_kind decimal_kind s)
  unnamed h = ap (λ (o : Option (List ℕ × List ℕ)). answer_to bytes_of (whole o)) (sym (unbegun decimal_kind s h)) ∙ line_decimals

  pub after_name : (t : List ℕ) (r : Option (List ℕ)) → part 0 t ≡ after (named name) (part 0 s) → r ≡ whole (front (decimal_fields keys) (part 0 t)) → answer_to bytes_of r ≡ bytes_of (read_kind decimal_kind s)
  after_name t r h e = ap (answer_to bytes_of) (e ∙ ap whole (sym (begun decimal_kind s t h refl))) ∙ line_decimals

-- ---- bytes, one after the other

module _ (n : ℕ) where
  pub no_byte_is : {e : Unread} → byte_of n ≡ Err e → (no_byte n ≡ true) × (e ≡ Outside)
  no_byte_is {e} h = go (no_byte n) h
    where
      go : (b : Bool) → cond b (Err Outside) (Ok n) ≡ Err e → (b ≡ true) × (e ≡ Outside)
      go true h = (refl, cc)
      go false h = let z : ◌≡◌ {A = ℕ} 0 1 = cc in absurd (omega arith)

  pub byte_is : {m : ℕ} → byte_of n ≡ Ok m → (no_byte n ≡ false) × (m ≡ n)
  byte_is {m} h = go (no_byte n) h
    where
      go : (b : Bool) → cond b (Err Outside) (Ok n) ≡ Ok m → (b ≡ false) × (m ≡ n)
      go true h = let z : ◌≡◌ {A = ℕ} 0 1 = cc in absurd (omega arith)
      go false h = (refl, cc)

module _ (ns : List ℕ) (i : ℕ) (k : i < length ns) where
  pub byte_outside : {e : Unread} → byte_of (get_or ns i 0) ≡ Err e → Err e ≡ bytes_of (some ns)
  byte_outside h = let g = no_byte_is (get_or ns i 0) h in rw (g.1, beyond_at ns i k g.0) refl

  -- one byte more
  pub byte_more : {m : ℕ} → byte_of (get_or ns i 0) ≡ Ok m → any_beyond (take i ns) ≡ false → any_beyond (take (i + 1) ns) ≡ false
  byte_more h f = ap any_beyond (take_more ns i 0 k) ∙ beyond_last (take i ns) (get_or ns i 0) ∙ rw (f, (byte_is (get_or ns i 0) h).0) refl

  pub bytes_more : (bs : List ℕ) {m : ℕ} → byte_of (get_or ns i 0) ≡ Ok m → i < length bs → take i bs ≡ take i ns → take (i + 1) (set bs i m) ≡ take (i + 1) ns
  bytes_more bs {m} h l e =
      take_more_set bs i m l
      ∙ (λ j. e j ++ (byte_is (get_or ns i 0) h).1 j ∷ [])
      ∙ sym (take_more ns i 0 k)

-- the values of a line are those of its fields, one by one
pub kind_elements : (k : Kind) (s vs : List ℕ) → read_kind k s ≡ some vs → vs ≡ elements (length k.fields) 0 vs
kind_elements k s vs h = by_fields k vs s (line_text_lem k s vs h)

-- a kind of decimals: the answer by the decimals of a line is that by what the line stands for
module _ {A R : Type 0} (read : A → R) (outside unreadable : R) (beyond : A → Bool) (r : Reader A) (same : (vs : List ℕ) → any_beyond (elements (length r.kind.fields) 0 vs) ≡ beyond (r.build vs)) where
  abbrev pub answers : Result (List ℕ) Unread → R
  answers (Ok vs) = read (r.build vs)
  answers (Err Outside) = outside
  answers (Err Unreadable) = unreadable

  answer_by_lem : (s : List ℕ) → answers (bytes_of (read_kind r.kind s)) ≡ answer_of beyond read outside unreadable (read_as r s)
  answer_by_lem s = go (read_kind r.kind s) refl
    where
      fits : (b : Bool) (vs : List ℕ) → answers (cond b (Err Outside) (Ok vs)) ≡ cond b outside (read (r.build vs))
      fits true vs = refl
      fits false vs = refl

      go : (o : maybe.Option (List ℕ)) → read_kind r.kind s ≡ o → answers (bytes_of o) ≡ answer_of beyond read outside unreadable (made r.build o)
      go none h = refl
      go (some vs) h =
          fits (any_beyond vs) vs
          ∙ ap (λ (b : Bool). cond b outside (read (r.build vs))) (ap any_beyond (kind_elements r.kind s vs h) ∙ same vs)

  pub by_decimals : (s : List ℕ) {d : Result (List ℕ) Unread} {a : R} → d ≡ bytes_of (read_kind r.kind s) → a ≡ answers d
      → a ≡ answer_of beyond read outside unreadable (read_as r s)
  by_decimals s e h = h ∙ ap answers e ∙ answer_by_lem s

-- and where that answer is a result: if the line does not read, and if it does
module _ {A : Type 0} (beyond : A → Bool) (r : Reader A) (same : (vs : List ℕ) → any_beyond (elements (length r.kind.fields) 0 vs) ≡ beyond (r.build vs)) where
  abbrev results : Result (List ℕ) Unread → Result A Unread
  results = answers Ok (Err Outside) (Err Unreadable) beyond r same

  unread_as_is : (unread : Unread) → Err unread ≡ results (Err unread)
  unread_as_is Outside = refl
  unread_as_is Unreadable = refl

  pub decimals_unread : (s : List ℕ) {d : Result (List ℕ) Unread} {unread : Unread} → d ≡ bytes_of (read_kind r.kind s) → d ≡ Err unread
      → Err unread ≡ answer_of beyond Ok (Err Outside) (Err Unreadable) (read_as r s)
  decimals_unread s {d} {unread} e h = by_decimals Ok (Err Outside) (Err Unreadable) beyond r same s e (unread_as_is unread ∙ ap results (sym h))

  pub decimals_read : (s : List ℕ) {d : Result (List ℕ) Unread} {vs : List ℕ} → d ≡ bytes_of (read_kind r.kind s) → d ≡ Ok vs
      → Ok (r.build vs) ≡ answer_of beyond Ok (Err Outside) (Err Unreadable) (read_as r s)
  decimals_read s e h = by_decimals Ok (Err Outside) (Err Unreadable) beyond r same s e (ap results (sym h))

-- as many keys as decimals
pub as_many : {R : Type 0} (m n : ℕ) {x a : R} (b : R) → m ≡ n → x ≡ a → x ≡ cond (eqb m n) a b
as_many m n b h e = rw (eq-eqb m n h) e
