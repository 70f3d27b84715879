-- The world with the parts of a step put back.
use Prim.Native.Nat.{ℕ, ◌<◌}
use mathlib.Core.List.{List}
use mathlib.Core.Path.{◌≡◌, sym}
use lib.ListN.{get_or, length, set}
use lib.Seq.{set-get_or}
use Rattle.log_votes.proofs.InList.{in_list}
use Rattle.log_core.specs.declared.Log.{Log}
use Rattle.log_core.specs.declared.Replay.{Replay}
use Rattle.log_core.specs.Enter.{feed}
use Rattle.log_core.specs.Log.{empty_log}
use Rattle.log_core.specs.Replay.{no_replay, replay_of}
use Rattle.model_protocol.specs.declared.Beside.TheVariants.{Nothing, Learns, GivesReplay, TakesReplay, KeepsFollow, StartsAnew}
use Rattle.model_protocol.specs.declared.Change.{Change}
use Rattle.model_protocol.specs.declared.Follows.{Follows}
use Rattle.model_protocol.specs.declared.Places.{Places}
use Rattle.model_protocol.specs.declared.World.{World}
use Rattle.model_protocol.specs.Batch.{Batch, entries_of, no_batch}
use Rattle.model_protocol.specs.Change.{learned_by}
use Rattle.model_protocol.specs.Message.{said_store}
use Rattle.model_protocol.specs.Process.{with_follow}
use Rattle.model_protocol.specs.Step.{put_back}
use Rattle.model_protocol.specs.World.{no_follows, replay_with}

module _ (w : World) (at : Places) (from : ℕ) (ch : Change) where
  abbrev after : World
  after = put_back w at (replay_with w from) ch

  -- what stands beside the parts is as after the change
  pub record Beside-put (logs : List Log) (restored replays : List Replay) (follows : List Follows) : Type 0 where
    pub logs_put : logs ≡ after.logs
    pub restored_put : restored ≡ after.restored
    pub replays_put : replays ≡ after.replays
    pub follows_put : follows ≡ after.follows

  -- so is the world, once the parts are stored
  pub all_put : (i p : ℕ) (logs : List Log) (restored replays : List Replay) (follows : List Follows) → i ≡ at.coordinator → p ≡ at.process
      → Beside-put logs restored replays follows
      → ◌≡◌ {A = World}
      (record {
        acceptors = ch.parts.acceptors;
        slots = set w.slots at.slot ch.parts.slot;
        coordinators = set w.coordinators i ch.parts.coordinator;
        logs = logs;
        restored = restored;
        follows = follows;
        down = ch.parts.down;
        messages = w.messages;
        replays = replays;
        sent = w.sent;
        processes = set w.processes p ch.parts.process;
      })
      after
  all_put i p logs restored replays follows hi hp put =
      λ k. record {
        acceptors = ch.parts.acceptors;
        slots = set w.slots at.slot ch.parts.slot;
        coordinators = set w.coordinators (hi k) ch.parts.coordinator;
        logs = put.logs_put k;
        restored = put.restored_put k;
        follows = put.follows_put k;
        down = ch.parts.down;
        messages = w.messages;
        replays = put.replays_put k;
        sent = w.sent;
        processes = set w.processes (hp k) ch.parts.process;
      }

  -- a log that learned nothing stays
  logs_stay : learned_by ch.beside ≡ no_batch → w.logs ≡ after.logs
  unfolding no_batch feed
  logs_stay h = rw h (sym (set-get_or w.logs at.coordinator empty_log))

  pub nothing_put : ch.beside ≡ Nothing → Beside-put w.logs w.restored w.replays w.follows
  nothing_put is = record { logs_put = logs_stay (rw is); restored_put = rw is; replays_put = rw is; follows_put = rw is }

  module _ (i p : ℕ) (hi : i ≡ at.coordinator) (hp : p ≡ at.process) where
    pub learned_put : (d fed : Log) (b : Batch) → at.coordinator < length w.logs → ch.beside ≡ Learns b → fed ≡ feed (get_or w.logs i d) (entries_of b)
        → Beside-put (set w.logs i fed) w.restored w.replays w.follows
    learned_put d fed b there is fed_is = record {
      logs_put = rw (is, fed_is, hi, in_list w.logs at.coordinator d empty_log there);
      restored_put = rw is;
      replays_put = rw is;
      follows_put = rw is;
    }

    pub given_put : (n store : ℕ) (d : Log) (r : Replay) → at.coordinator < length w.logs → ch.beside ≡ GivesReplay → n ≡ w.sent → store ≡ said_store ch.message
        → r ≡ replay_of (get_or w.logs i d) store
        → Beside-put w.logs w.restored (set w.replays n r) w.follows
    given_put n store d r there is hn hs r_is = record {
      logs_put = logs_stay (rw is);
      restored_put = rw is;
      replays_put = rw (is, r_is, hn, hs, hi, in_list w.logs at.coordinator d empty_log there);
      follows_put = rw is;
    }

    pub taken_put : (d : Replay) → from < length w.replays → ch.beside ≡ TakesReplay
        → Beside-put w.logs (set w.restored p (get_or w.replays from d)) w.replays w.follows
    taken_put d there is = record {
      logs_put = logs_stay (rw is);
      restored_put = rw (is, hp, in_list w.replays from d no_replay there);
      replays_put = rw is;
      follows_put = rw is;
    }

    pub kept_put : (d kept : Follows) → at.process < length w.follows → ch.beside ≡ KeepsFollow → kept ≡ with_follow (get_or w.follows p d) ch.parts.message
        → Beside-put w.logs w.restored w.replays (set w.follows p kept)
    kept_put d kept there is kept_is = record {
      logs_put = logs_stay (rw is);
      restored_put = rw is;
      replays_put = rw is;
      follows_put = rw (is, kept_is, hp, in_list w.follows at.process d no_follows there);
    }

    pub anew_put : (r : Replay) (f : Follows) → ch.beside ≡ StartsAnew → r ≡ no_replay → f ≡ no_follows
        → Beside-put w.logs (set w.restored p r) w.replays (set w.follows p f)
    anew_put r f is none_r none_f = record {
      logs_put = logs_stay (rw is);
      restored_put = rw (is, hp, none_r);
      replays_put = rw is;
      follows_put = rw (is, hp, none_f);
    }
