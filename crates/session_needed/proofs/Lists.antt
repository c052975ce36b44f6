-- The lists of calls that Needed computes. Assumes nothing.
use Prim.Native.Nat.{ℕ}
use mathlib.Core.List.{List, [], ◌∷◌}
use lib.ListN.{replicate}
use Rattle.topic_types.specs.declared.ControllerIncarnation.{ControllerIncarnation}
use Rattle.session.specs.Trace.{Call, update, response, drain, begin}

abbrev pub link : ℕ → ControllerIncarnation
link n = record { 0 = n }

abbrev pub room : List ℕ
room = replicate 3210 0

-- a push to consumer 7 and an answer to request 1, with no segments at an epoch below 128
abbrev pub pushed : ℕ → Call
pushed epoch = update (8 ∷ 7 ∷ 18 ∷ 2 ∷ 8 ∷ epoch ∷ []) (link 1) room

abbrev pub answered : ℕ → Call
answered epoch = response (8 ∷ 1 ∷ 34 ∷ 2 ∷ 8 ∷ epoch ∷ []) (link 1)

-- a push of epoch 2, a response of epoch 1, and begin before the drain
abbrev pub unread : List Call
unread = pushed 2 ∷ answered 1 ∷ begin (link 2) ∷ []

-- the same push and response, and a push of epoch 3 before the drains
abbrev pub between : List Call
between = pushed 2 ∷ answered 1 ∷ pushed 3 ∷ drain 0 room ∷ drain 0 room ∷ []

-- the same calls with the drains in their place
abbrev pub in_place : List Call
in_place = pushed 2 ∷ answered 1 ∷ drain 0 room ∷ drain 0 room ∷ pushed 3 ∷ []

-- the same push and response, drained by reader 1 alone
abbrev pub by_another : List Call
by_another = pushed 2 ∷ answered 1 ∷ drain 1 room ∷ drain 1 room ∷ []
