use native.Mathlib.Omega.{arith}
use mathlib.Core.Path.{◌≡◌, sym, subst, ◌∙◌}
use Prim.Native.Nat.{ℕ, ◌≤◌}
use Rattle.text_lines.specs.Feed.{state_of}
use Rattle.text_io.proofs.Pieces.{read_is_fed}
use Rattle.text_io.specs.Reading.{bytes_read}
use Rattle.text_io.proofs.answer.Goals as goal

-- what the program says is printed is no longer than the buffer
pub returns-clause-prints : goal.returns-clause-prints
returns-clause-prints g c =
    let S = g.P.Session.Session in
    let r = c.args.reading in
    let p = c.output_of in
    λ read.
    let printed = p.ensures (bytes_read read) (read_is_fed S.over S.step S.first (state_of S.state r.input) r.pieces r.last read) in
    let within = g.met.P.Program.within _ _ _ printed in
    let whole : c.min-printed.result ≡ p.result = omega (arith, c.min-printed.ensures, within, c.told-out) in
    subst (λ (n : ℕ). g.P.Program.prints (bytes_read read) p.new.out n) (sym whole) printed
