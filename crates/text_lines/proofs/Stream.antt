-- However the input is cut into pieces, a machine fed its bytes does what the same machine does
-- with its lines.
use Prim.Native.Nat.{ℕ, ◌≤◌, ◌<◌, ◌+◌}
use native.Mathlib.Omega.{arith}
use native.Mathlib.Decide.{dec_lt}
use native.Mathlib.Numerals.{add-one}
use mathlib.Core.Bool.{Bool, true, false, ◌||◌, cond}
use mathlib.Core.List.{List, [], ◌∷◌, ◌++◌}
use mathlib.Core.Path.{◌≡◌, refl, sym, ◌∙◌, ap, subst}
use lib.Dec.{eqb}
use lib.ListN.{length, take, set, length-append, length-set}
use lib.Seq.{take-suc-set}
use borrow.Author.Tests.{ne_eqb, eq-eqb}
use Rattle.text_lines.specs.declared.Line.{Line}
use Rattle.text_lines.specs.Feed.{Fed, fresh, fed_byte, fed, finished, fed_lines}
use Rattle.text_lines.specs.Line.{no_line, with}
use Rattle.text_lines.specs.Lines.{max_line_bytes, lf, lines_from, lines}
use Rattle.text_lines.proofs.Gathering.{with_room, without_room}

-- the line holds these bytes, or is known to be too long
pub record Holds (l : Line) (s : List ℕ) : Type 0 where
  pub room : length l.bytes ≡ max_line_bytes
  pub count : length s ≤ max_line_bytes → l.length ≡ length s
  pub bytes : length s ≤ max_line_bytes → take (length s) l.bytes ≡ s
  pub long : max_line_bytes < length s → l.length ≡ max_line_bytes + 1

pub holds_none : Holds no_line []
holds_none = record { room = refl; count = λ h. refl; bytes = λ h. refl; long = λ h. absurd (omega arith) }

one_more : (s : List ℕ) (c : ℕ) → length (s ++ c ∷ []) ≡ length s + 1
one_more s c = length-append s (c ∷ [])

pub holds_with : (l : Line) (s : List ℕ) (c : ℕ) → Holds l s → Holds (with l c) (s ++ c ∷ [])
holds_with l s c h = elim (dec_lt (length s) max_line_bytes) [
  | yes k ↦
      let n : l.length ≡ length s = h.count (omega arith) in
      let e = with_room l c (omega arith) in
      subst (λ (m : Line). Holds m (s ++ c ∷ [])) (sym e) (record {
        room = length-set l.bytes l.length c ∙ h.room;
        count = λ j. omega (arith, one_more s c);
        bytes = λ j. stored n (h.bytes (omega arith)) (omega (arith, h.room));
        long = λ j. absurd (omega (arith, one_more s c));
      })
  | no k ↦
      let full : max_line_bytes ≤ l.length = counted k (dec_lt max_line_bytes (length s)) in
      let e = without_room l c full in
      subst (λ (m : Line). Holds m (s ++ c ∷ [])) (sym e) (record {
        room = h.room;
        count = λ j. absurd (omega (arith, one_more s c));
        bytes = λ j. absurd (omega (arith, one_more s c));
        long = λ j. refl;
      })
]
  where
    stored : l.length ≡ length s → take (length s) l.bytes ≡ s → length s < length l.bytes → take (length (s ++ c ∷ [])) (set l.bytes l.length c) ≡ s ++ c ∷ []
    stored n b k =
        (λ i. take ((one_more s c ∙ add-one (length s)) i) (set l.bytes (n i) c))
        ∙ take-suc-set l.bytes (length s) c k
        ∙ ap (λ (t : List ℕ). t ++ c ∷ []) b

    counted : (length s < max_line_bytes → ⊥) → Dec (max_line_bytes < length s) → max_line_bytes ≤ l.length
    counted k (yes j) = omega (arith, h.long j)
    counted k (no j) = omega (arith, h.count (omega arith))

module _ {S : Type 0} (over : S → Bool) (step : S → Line → S) where
  pub fed_over : (f : Fed S) (s : List ℕ) → over f.state ≡ true → fed over step f s ≡ f
  unfolding fed
  fed_over f [] h = refl
  fed_over f (c ∷ s) h = rw h

  -- The answers do not depend on how the input was cut into pieces.
  pub fed_in_pieces : (f : Fed S) (a b : List ℕ) → fed over step f (a ++ b) ≡ fed over step (fed over step f a) b
  unfolding fed
  fed_in_pieces f [] b = refl
  fed_in_pieces f (c ∷ a) b = go (over f.state) refl (fed_in_pieces (fed_byte over step f c) a b)
    where
      go : (o : Bool) → over f.state ≡ o → fed over step (fed_byte over step f c) (a ++ b) ≡ fed over step (fed over step (fed_byte over step f c) a) b
          → cond o f (fed over step (fed_byte over step f c) (a ++ b)) ≡ fed over step (cond o f (fed over step (fed_byte over step f c) a)) b
      go true h ih = sym (fed_over f b h)
      go false h ih = ih

  -- what a line does, by its bytes
  module _ (act : S → List ℕ → S) (meets : (s : S) (l : Line) (b : List ℕ) → Holds l b → step s l ≡ act s b) where
    lines_over : (s : S) (ls : List (List ℕ)) → over s ≡ true → fed_lines over act s ls ≡ s
    unfolding fed_lines
    lines_over s [] h = refl
    lines_over s (l ∷ ls) h = rw h

    finished_over : (f : Fed S) → over f.state ≡ true → finished over step f ≡ f.state
    unfolding finished
    finished_over f h = rw h

    begun : (l : Line) (c : ℕ) (t : List ℕ) → Holds l (c ∷ t) → eqb l.length 0 ≡ false
    begun l c t h = ne_eqb l.length 0 (not_zero (dec_lt max_line_bytes (length (c ∷ t))))
      where
        not_zero : Dec (max_line_bytes < length (c ∷ t)) → l.length ≡ 0 → ⊥
        not_zero (yes k) z = omega (arith, h.long k)
        not_zero (no k) z = omega (arith, h.count (omega arith))

    stream_from : (f : Fed S) (b s : List ℕ) → Holds f.line b → finished over step (fed over step f s) ≡ fed_lines over act f.state (lines_from b s)
    unfolding fed finished fed_lines lines_from
    stream_from f [] [] h =
        let z : eqb f.line.length 0 ≡ true = eq-eqb f.line.length 0 (h.count (omega arith)) in
        rw z (go (over f.state))
      where
        go : (o : Bool) → cond (o || true) f.state (step f.state f.line) ≡ f.state
        go true = refl
        go false = refl
    stream_from f (c ∷ t) [] h = rw (begun f.line c t h) (go (over f.state))
      where
        go : (o : Bool) → cond (o || false) f.state (step f.state f.line) ≡ cond o f.state (act f.state (c ∷ t))
        go true = refl
        go false = meets f.state f.line (c ∷ t) h
    stream_from f b (c ∷ s) h =
        go (over f.state) (eqb c lf) refl
        (stream_from (fresh (step f.state f.line)) [] s holds_none)
        (stream_from (record { state = f.state; line = with f.line c }) (b ++ c ∷ []) s (holds_with f.line b c h))
      where
        end : Fed S → S
        end = finished over step

        go : (o e : Bool) → over f.state ≡ o
            → end (fed over step (fresh (step f.state f.line)) s) ≡ fed_lines over act (step f.state f.line) (lines_from [] s)
            → end (fed over step (record { state = f.state; line = with f.line c }) s) ≡ fed_lines over act f.state (lines_from (b ++ c ∷ []) s)
            → end (cond o f (fed over step (cond e (fresh (step f.state f.line)) (record { state = f.state; line = with f.line c })) s))
            ≡ fed_lines over act f.state (cond e (b ∷ lines_from [] s) (lines_from (b ++ c ∷ []) s))
        go true e o i j = finished_over f o ∙ sym (lines_over f.state (cond e (b ∷ lines_from [] s) (lines_from (b ++ c ∷ []) s)) o)
        go false true k i j = i ∙ ap (λ (x : S). fed_lines over act x (lines_from [] s)) (meets f.state f.line b h) ∙ rw k
        go false false k i j = j

    -- Fed the bytes of an input, the machine ends as it does fed the input's lines.
    pub stream_is_lines : (s : S) (input : List ℕ) → finished over step (fed over step (fresh s) input) ≡ fed_lines over act s (lines input)
    stream_is_lines s input = stream_from (fresh s) [] input holds_none
