-- A text that is never longer than the buffer is printed whole.
use Prim.Native.Nat.{ℕ, ◌+◌, min, max}
use native.Mathlib.Omega.{arith}
use mathlib.Core.List.{List}
use mathlib.Core.Path.{◌≡◌, sym, ◌∙◌, subst}
use lib.ListN.{length}
use lib.Seq.{length-take-le}
use Rattle.text_ascii.proofs.Writing.{wrote_length, wrote_whole}
use Rattle.text_report.specs.Printed.{Printed}
use Rattle.text_ascii.specs.Wrote.{Wrote}
use Rattle.text_ascii.specs.declared.Page.{Page}
use Rattle.text_report.specs.Within.{Within}

pub printed_whole : (longest : ℕ) {a b : Page} {t : List ℕ} → a.at ≡ 0 → length a.bytes.now ≡ longest → Within longest a b t → Printed longest t b.bytes.now b.at
printed_whole longest {a} {b} {t} first room w =
    let wrote : Wrote a.bytes.now 0 t b.bytes.now b.at = subst (λ (at : ℕ). Wrote a.bytes.now at t b.bytes.now b.at) first w.puts.wrote in
    let p : b.at ≡ min (0 + length t) (max 0 (length a.bytes.now)) = wrote.place in
    let e : length b.bytes.now ≡ length a.bytes.now = wrote_length wrote in
    record {
      whole = wrote_whole a.bytes.now t b.bytes.now b.at wrote (omega (arith, w.within));
      room = e ∙ room;
      count = omega arith;
      counted = sym (length-take-le b.at b.bytes.now (omega arith));
    }

pub printed_as : {longest n : ℕ} {s t m : List ℕ} → s ≡ t → Printed longest s m n → Printed longest t m n
printed_as {longest} {n} {s} {t} {m} e p = subst (λ (u : List ℕ). Printed longest u m n) e p
