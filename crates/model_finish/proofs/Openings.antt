-- A coordinator opened no ballot above its last one in its current instance, and none in a later
-- one. So what it may open, and what an acceptor would promise, is said by the history.
use Prim.Native.Nat.{ℕ, ◌+◌, ◌-◌, ◌≤◌, ◌<◌, min}
use native.Mathlib.Decide.{ℕ_discrete}
use native.Mathlib.Omega.{arith}
use mathlib.Core.List.{List, [], ◌∷◌, ◌++◌, append_assoc, append-nil}
use mathlib.Core.Logic.{◌⊎◌, inl, inr, ◌≢◌}
use mathlib.Core.Path.{◌≡◌, refl, subst, subst₂, sym, ◌∙◌}
use lib.ListN.{get_or, length, set}
use Rattle.model_steps.specs.declared.Step.{Step}
use Rattle.model_steps.specs.Limits.{ballots, instances}
use Rattle.model_owners.specs.Owners.{owner}
use Rattle.model_protocol.specs.declared.Coordinator.{Coordinator}
use Rattle.model_protocol.specs.declared.World.{World}
use Rattle.model_protocol.specs.Coordinator.{learning}
use Rattle.model_protocol.specs.Step.{run}
use Rattle.model_protocol.specs.World.{coordinator_of, fresh_coordinator, fresh_world}
use Rattle.model_agreement.specs.History.{Before, Event, Happened, LastOpened, acceptors, asked, back, delivered, earlier, history, history_from, now, opened, opening, restoring, setup, without_messages}
use Rattle.model_agreement.proofs.AllInvariants.{Good, good, history_append}
use Rattle.model_agreement.proofs.Arrays.{set_ind}
use Rattle.model_agreement.proofs.Shape.{co_in, owner_in}
use Rattle.model_agreement.proofs.StepEffects.{Move, Trans, asks, comes_back_lem, counts, crashes, follows, hears, is_told, joins, learns, moves, opens, passes_accept, passes_accepted, passes_follow, passes_prepare, passes_promise, passes_request, passes_restore, promises, proposes, refused, restores, sets_up, takes, takes_follow_lem, tells, trans, votes}
use Rattle.model_finish.specs.ByHistory.{AboveAll, BallotByHistory}
use Rattle.model_finish.specs.Such.{OwnBallot, current_of}
use Rattle.model_finish.proofs.Theorem.{run_append}

-- ---- the openings of a coordinator k that is x

abbrev Opens : List Event → ℕ → Coordinator → Type 0
Opens h k x = (j d : ℕ) (g : List Event) → Before (opened k j d) g h → (j < x.applied) ⊎ (j ≡ x.applied) × (d ≤ x.round.ballot)

abbrev AllOpens : World → List Event → Type 0
AllOpens w h = (k : ℕ) → Opens h k (coordinator_of w k)

abbrev NoOpening : Event → Type 0
NoOpening (setup n) = Unit {0}
NoOpening (asked e) = Unit {0}
NoOpening (opened c i b) = ⊥
NoOpening (restoring c m) = Unit {0}
NoOpening (delivered m x) = Unit {0}
NoOpening (back p t) = Unit {0}

before_cases : {e x : Event} {g h : List Event} → Before e g (x ∷ h) → (e ≡ x) ⊎ Before e g h
before_cases now = inl refl
before_cases (earlier y) = inr y

before_it : {e : Event} {k j d : ℕ} {g h : List Event} → NoOpening e → Before (opened k j d) g (e ∷ h) → Before (opened k j d) g h
before_it o now = absurd o
before_it o (earlier y) = y

later : (e : Event) {h : List Event} {k : ℕ} (x : Coordinator) → NoOpening e → Opens h k x → Opens (e ∷ h) k x
later e x o p j d g y = p j d g (before_it o y)

-- another coordinator's opening
of_another : {h : List Event} {k c i b : ℕ} (x : Coordinator) → k ≢ c → Opens h k x → Opens (opened c i b ∷ h) k x
of_another x ne p j d g (now) = absurd (ne refl)
of_another x ne p j d g (earlier y) = p j d g y

module _ {w : World} {h : List Event} (G : Good w h) (o : AllOpens w h) where
  -- coordinator c changes to x
  changes : (c : ℕ) (x : Coordinator) (f : List Event) → c < length w.coordinators → Opens f c x
      → ((k : ℕ) → c ≢ k → Opens f k (coordinator_of w k))
      → (k : ℕ) → Opens f k (get_or (set w.coordinators c x) k fresh_coordinator)
  changes c x f l p q = set_ind (λ k y. Opens f k y) w.coordinators fresh_coordinator c x l p q

  -- its ballot and its instance stay
  stays : (c : ℕ) (x : Coordinator) (e : Event) → NoOpening e → c < length w.coordinators → x.applied ≡ (coordinator_of w c).applied
      → x.round.ballot ≡ (coordinator_of w c).round.ballot → (k : ℕ) → Opens (e ∷ h) k (get_or (set w.coordinators c x) k fresh_coordinator)
  stays c x e n l a b =
      changes c x (e ∷ h) l (later e x n (λ j d g y. subst₂ (λ p r. (j < p) ⊎ (j ≡ p) × (d ≤ r)) (sym a) (sym b) (o c j d g y))) (λ k ne. later e (coordinator_of w k) n (o k))

  -- nothing of it changes
  same : (e : Event) → NoOpening e → (k : ℕ) → Opens (e ∷ h) k (coordinator_of w k)
  same e n k = later e (coordinator_of w k) n (o k)

  opens_move : {w' : World} {h' : List Event} → Move w h w' h' → AllOpens w' h'
  unfolding learning
  opens_move (asks e k ms c _ _ p) = same (asked e) tt
  opens_move (opens k i b ms c l _ _ e _ u p) =
      changes k _ (opened k i b ∷ h) (co_in G.shape l) new (λ j ne. of_another (coordinator_of w j) (λ q. ne (sym q)) (o j))
    where
      new : (j d : ℕ) (g : List Event) → Before (opened k j d) g (opened k i b ∷ h) → (j < (coordinator_of w k).applied) ⊎ (j ≡ (coordinator_of w k).applied) × (d ≤ b)
      new j d g y = go (before_cases y)
        where
          go : (opened k j d ≡ opened k i b) ⊎ Before (opened k j d) g h → (j < (coordinator_of w k).applied) ⊎ (j ≡ (coordinator_of w k).applied) × (d ≤ b)
          go (inl q) = let f : j ≡ i = cc in let z : d ≡ b = cc in inr (f ∙ e, omega arith)
          go (inr y) = elim (o k j d g y) [
            | inl a ↦ inl a
            | inr a ↦ inr (a.0, omega (arith, a.1))
          ]
  opens_move (proposes k i b v ms c l _ _ _ _ _ _ _ p) =
      changes k _ h (co_in G.shape l) (o k) (λ j ne. o j)
  opens_move (tells k q tx ms c _ _ _ p) = o
  opens_move (restores k q ms c _ _ _ p) = same (restoring k w.sent) tt
  opens_move (follows k q tx ms c _ _ _ _ _ p) = o
  opens_move (crashes d) = o
  opens_move (comes_back_lem p t d _ _) = same (back p t) tt
  opens_move (promises j i b a ms c _ _ p) = same _ tt
  opens_move (passes_prepare j i b a _ _) = same _ tt
  opens_move (votes j i b a v ms c _ _ p _) = same _ tt
  opens_move (passes_accept j i b a v _ _) = same _ tt
  opens_move (hears j i b a d v d' v' _ _ _ _) = stays (owner b) _ _ tt (owner_in G.shape b) refl refl
  opens_move (passes_promise j i b a d v _) = same _ tt
  opens_move (counts j i b a _ _ _ _) = stays (owner b) _ _ tt (owner_in G.shape b) refl refl
  opens_move (learns j i b a s e f _) =
      changes (owner b) _ _ (owner_in G.shape b)
      (later _ (learning its) tt (λ y d g z. inl (past y (o (owner b) y d g z))))
      (λ k ne. later _ (coordinator_of w k) tt (o k))
    where
      its : Coordinator
      its = coordinator_of w (owner b)

      room : its.applied < instances
      room = (G.range.cos (owner b)).room (omega (arith, f, (G.range.sent s).positive))

      past : (y : ℕ) {d : ℕ} → (y < its.applied) ⊎ (y ≡ its.applied) × (d ≤ its.round.ballot) → y < min (its.applied + 1) instances
      past y (inl z) = omega (arith, room)
      past y (inr z) = omega (arith, room, z.0)
  opens_move (passes_accepted j i b a _ _) = same _ tt
  opens_move (joins j k e s _) = stays k _ _ tt (co_in G.shape (G.range.sent s)) refl refl
  opens_move (passes_request j k e _) = same _ tt
  opens_move (is_told j p tx x _) = same _ tt
  opens_move (takes j p t z i r n _ _) = same _ tt
  opens_move (passes_restore j p t z i r n _ _) = same _ tt
  opens_move (takes_follow_lem j p z tx x u _ _) = same _ tt
  opens_move (passes_follow j p z tx x u _ _) = same _ tt

  opens_trans : {w' : World} {h' : List Event} → Trans w h w' h' → AllOpens w' h'
  opens_trans refused = o
  opens_trans (sets_up n _ _) = same (setup n) tt
  opens_trans (moves _ m) = opens_move m

-- after one more step
opens_step : (pre : List Step) (s : Step) → AllOpens (run fresh_world pre) (history pre) → AllOpens (run fresh_world (pre ++ s ∷ [])) (history (pre ++ s ∷ []))
unfolding run history_from
opens_step pre s o =
    let G = good pre in
    subst₂ AllOpens (sym (run_append pre (s ∷ []) fresh_world)) (sym (history_append pre (s ∷ []) fresh_world []))
    (opens_trans G o (trans (run fresh_world pre) (history pre) G.shape.room G.few (λ _ _ a. G.range.sent a) s))

opens_from : (rest pre : List Step) → AllOpens (run fresh_world pre) (history pre) → AllOpens (run fresh_world (pre ++ rest)) (history (pre ++ rest))
opens_from [] pre o = subst (λ (x : List Step). AllOpens (run fresh_world x) (history x)) (sym (append-nil pre)) o
opens_from (s ∷ rest) pre o =
    subst (λ (x : List Step). AllOpens (run fresh_world x) (history x)) (append_assoc pre (s ∷ []) rest) (opens_from rest (pre ++ s ∷ []) (opens_step pre s o))

all_opens : (steps : List Step) → AllOpens (run fresh_world steps) (history steps)
unfolding history_from
all_opens steps = opens_from steps [] (λ k j d g y. absurd (none y))
  where
    none : {k j d : ℕ} {g : List Event} → Before (opened k j d) g [] → ⊥
    none y = elim y [ ]

-- ---- the ballots by the history

-- the last opening is one
happened : {k i b : ℕ} {h : List Event} → LastOpened k i b h → Happened (opened k i b) h
happened opening = (_, now)
happened (without_messages e y) = let z = happened y in (z.0, earlier z.1)

module _ (steps : List Step) (c b : ℕ) (inside : current_of (run fresh_world steps) c < instances) where
  abbrev w : World
  w = run fresh_world steps

  abbrev h : List Event
  h = history steps

  abbrev i : ℕ
  i = current_of w c

  to_history : OwnBallot w c b → AboveAll h c i b
  to_history own =
      let G = good steps in
      record {
        prepares = λ a d l y. omega (arith, (G.hist.acc a i inside).top.prepares y, own.above_promised a (subst (λ (n : ℕ). a < n) G.number l));
        accepts = λ a d v l y. omega (arith, (G.hist.acc a i inside).top.accepts y, own.above_promised a (subst (λ (n : ℕ). a < n) G.number l));
        openings = λ d y. elim (all_opens steps c i d y.0 y.1) [
          | inl z ↦ absurd (omega arith)
          | inr z ↦ omega (arith, own.above_opened, z.1)
        ];
      }

  from_history : 0 < b → b ≤ ballots → owner b ≡ c → AboveAll h c i b → OwnBallot w c b
  from_history p q e above =
      let G = good steps in
      record {
        positive = p;
        within = q;
        own = e;
        above_promised =
            λ a l.
            let g : a < acceptors h = subst (λ (n : ℕ). a < n) (sym G.number) l in
            let low = (G.hist.acc a i inside).least (b - 1) (record { prepares = λ y. omega (arith, above.prepares a _ g y); accepts = λ y. omega (arith, above.accepts a _ _ g y) }) in
            omega arith;
        above_opened = last_opened (ℕ_discrete (coordinator_of w c).round.ballot 0);
      }
    where
      last_opened : Dec ((coordinator_of w c).round.ballot ≡ 0) → (coordinator_of w c).round.ballot < b
      last_opened (yes z) = omega arith
      last_opened (no z) = above.openings _ (happened (((good steps).hist.co c).now.last (omega arith)))

pub ballot_by_history : BallotByHistory
ballot_by_history steps c b inside =
    (λ own. (own.positive, own.within, own.own, to_history steps c b inside own), λ x. from_history steps c b inside x.0 x.1 x.2 x.3)
