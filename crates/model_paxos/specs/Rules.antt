-- Single-decree Paxos: what the sent messages obey, and the claim that at most one value is chosen
-- in an instance. S says which messages were sent; nothing is said of what a value is.
use Rattle.std.specs.Prelude.{ℕ, zero, suc, ◌/◌, ◌%◌, ◌≤◌, ◌<◌, ◌≡◌, ◌⊎◌}
use Rattle.model_steps.specs.Limits.{instances}
use Rattle.model_paxos.specs.Majority.{Majority}
use Rattle.model_paxos.specs.Messages.{Paxos, accept, accepted, promise}

-- digit a of the set
abbrev pub bit : ℕ → ℕ → ℕ
bit zero q = q % 2
bit (suc a) q = bit a (q / 2)

-- acceptor a is in the set
abbrev pub Has : ℕ → ℕ → Type 0
Has q a = bit a q ≡ 1

-- why v may be proposed in i under b: a majority promised b, none of it with an accepted ballot
-- above `from`, and `from` is 0 or has v
pub record Why {X : Type 0} (n : ℕ) (S : Paxos X → Type 0) (i b : ℕ) (v : X) : Type 0 where
  pub from : ℕ
  pub below : from < b
  pub set : ℕ
  pub most : Majority n set
  pub heard : (a : ℕ) → Has set a → (d : ℕ) × (w : X) × S (promise i b a d w) × (d ≤ from)
  pub same : (from ≡ 0) ⊎ ((a : ℕ) × S (accept i from a v))

-- a majority accepted v in i under b
pub record Chosen {X : Type 0} (n : ℕ) (S : Paxos X → Type 0) (i b : ℕ) (v : X) : Type 0 where
  pub set : ℕ
  pub most : Majority n set
  pub all : (a : ℕ) → Has set a → S (accepted i b a)
  pub who : ℕ
  pub asked : S (accept i b who v)

pub record Core {X : Type 0} (n : ℕ) (S : Paxos X → Type 0) : Type 0 where
  -- an acceptor's promise of b names the highest ballot below b that it ever accepts
  pub last : {i b a d c : ℕ} {v : X} → S (promise i b a d v) → S (accepted i c a) → c < b → c ≤ d
  -- what is accepted was proposed
  pub asked : {i b a : ℕ} → S (accepted i b a) → (v : X) × S (accept i b a v)
  -- at most one value is proposed under a ballot of an instance
  pub one : {i b a c : ℕ} {v w : X} → S (accept i b a v) → S (accept i b c w) → v ≡ w
  pub positive : {i b a : ℕ} {v : X} → S (accept i b a v) → 0 < b
  pub why : {i b a : ℕ} {v : X} → S (accept i b a v) → Why n S i b v
  pub bound : {i b a : ℕ} {v : X} → S (accept i b a v) → i < instances
  -- the accepted pair of a promise was proposed
  pub accepted : {i b a d : ℕ} {v : X} → S (promise i b a d v) → (d < b) × ((d ≡ 0) ⊎ S (accept i d a v))
  -- none is skipped
  pub prior : {i b a : ℕ} {v : X} → S (accept i b a v) → (j : ℕ) → j < i → (c : ℕ) × (w : X) × Chosen n S j c w

-- two values chosen in one instance are equal
abbrev pub ChosenAgree : Type 1
ChosenAgree =
    (X : Type 0) (n : ℕ) (S : Paxos X → Type 0) → Core n S
    → (i b c : ℕ) (v w : X) → Chosen n S i b v → Chosen n S i c w → v ≡ w
