-- The kinds of messages. `said_kind` of specs/Message.antt has the kind of each.
pub data Kind : Type 0 where
  Request : Kind
  Prepare : Kind
  Accept : Kind
  Promise : Kind
  Accepted : Kind
  Tell : Kind
  Restore : Kind
  Follow : Kind
