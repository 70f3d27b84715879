-- The lines of the list.
use Prim.Native.Nat.{ℕ, suc, ◌<◌}
use mathlib.Core.List.{List, [], ◌∷◌, ◌++◌, append_assoc, append-nil}
use mathlib.Core.Path.{◌≡◌, refl, ap, ap₂, sym, ◌∙◌}
use native.Mathlib.Omega.{arith}
use Rattle.text_ascii.specs.Bytes.{ascii}
use Rattle.text_ascii.specs.Decimal.{decimal}
use Rattle.model_steps.specs.declared.Step.{Step}
use Rattle.model_steps.specs.declared.Step.TheVariants.{Deliver, Open, Propose}
use Rattle.model_finish.specs.Closing.{deliveries}
use Rattle.text_entry.specs.Fields.{fields_text, line_text, value_text}
use Rattle.text_report.specs.Report.{each, end, field}
use Rattle.text_step.specs.Step.{text, text_in}
use Rattle.finish_list.specs.Longest.{open_name, propose_name}
use Rattle.finish_list.specs.Text.{steps_text}

-- ---- the text of a step, field by field

one_field : (n k x e : List ℕ) → n ++ k ++ x ++ e ≡ n ++ (k ++ x ++ []) ++ e
one_field n k x e = simp (append_assoc, append-nil)

three_fields : (n k l m x y z e : List ℕ)
    → n ++ k ++ x ++ (l ++ y) ++ (m ++ z) ++ e ≡ n ++ (k ++ x ++ (l ++ y ++ (m ++ z ++ []))) ++ e
three_fields n k l m x y z e = simp (append_assoc, append-nil)

pub deliver_text : (m : ℕ) → field (ascii "do=deliver msg=") m ++ end ≡ text (Deliver m) ++ end
unfolding text_in line_text fields_text value_text
deliver_text m = one_field (ascii "do=deliver") (ascii " msg=") (decimal m) end

-- a line of an instance and a ballot
abbrev pub round_line : List ℕ → ℕ → ℕ → ℕ → List ℕ
round_line name c i b = field name c ++ field (ascii " inst=") i ++ field (ascii " ballot=") b ++ end

pub open_text : (c i b : ℕ) → round_line open_name c i b ≡ text (Open c i b) ++ end
unfolding text_in line_text fields_text value_text
open_text c i b =
    three_fields (ascii "do=open") (ascii " coord=") (ascii " inst=") (ascii " ballot=") (decimal c) (decimal i) (decimal b) end

pub propose_text : (c i b : ℕ) → round_line propose_name c i b ≡ text (Propose c i b) ++ end
unfolding text_in line_text fields_text value_text
propose_text c i b =
    three_fields (ascii "do=propose") (ascii " coord=") (ascii " inst=") (ascii " ballot=") (decimal c) (decimal i) (decimal b) end

-- ---- the text of a list

pub steps_append : (xs ys : List Step) → steps_text (xs ++ ys) ≡ steps_text xs ++ steps_text ys
unfolding steps_text
steps_append [] ys = refl
steps_append (s ∷ xs) ys =
    ap (λ (l : List ℕ). text s ++ end ++ l) (steps_append xs ys) ∙ sym (append_assoc (text s ++ end) (steps_text xs) (steps_text ys))

pub run_text : (f : ℕ → ℕ) (k : ℕ) → each (λ j. text (Deliver (f j)) ++ end) k ≡ steps_text (deliveries f k)
unfolding each deliveries steps_text
run_text f ℕ.zero = refl
run_text f (suc k) =
    ap₂ ◌++◌ (run_text f k) (sym (append-nil (text (Deliver (f k)) ++ end))) ∙ sym (steps_append (deliveries f k) (Deliver (f k) ∷ []))

-- numbers that are the same below k
pub same_run : (f g : ℕ → ℕ) (k : ℕ) → ((j : ℕ) → j < k → f j ≡ g j) → deliveries f k ≡ deliveries g k
unfolding deliveries
same_run f g ℕ.zero h = refl
same_run f g (suc k) h =
    ap₂ (λ (steps : List Step) (n : ℕ). steps ++ Deliver n ∷ []) (same_run f g k (λ j m. h j (omega arith))) (h k (omega arith))

-- two steps, each with two runs behind it
pub list_text : (s t : Step) (a b c d : List Step)
    → text s ++ end ++ steps_text (a ++ b) ++ (text t ++ end) ++ steps_text (c ++ d) ≡ steps_text (s ∷ a ++ b ++ t ∷ c ++ d)
unfolding steps_text
list_text s t a b c d = simp (steps_append, append_assoc)
