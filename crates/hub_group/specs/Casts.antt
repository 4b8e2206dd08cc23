-- What is seen of the members of a group, as a call begins and ends.
use Rattle.std.specs.Prelude.{◌≡◌, ◌<◌, ◌⊎◌, ◌==◌, ℕ, Bool, MatchBool, List, [], ◌∷◌, ◌++◌, length, slice_get, Option, Some, None}
use Rattle.hub_line.specs.Ends.{posted, IsOver, SamePoster}
use Rattle.hub_group.specs.declared.member.CastAnswer.{CastAnswer}
use Rattle.hub_group.specs.declared.member.GroupMember.{GroupMember}

module _ {M : Type 0} where
  -- all that was posted at the member
  abbrev pub told : GroupMember M → List M
  told m = posted m.poster.to

  -- the message was posted at the member, once
  abbrev pub IsPosted : M → GroupMember M → GroupMember M → CastAnswer → Type 0
  IsPosted message old new answer = (answer.status ≡ 0) × (told new ≡ told old ++ message ∷ [])

  -- nothing was posted at the member, for want of memory, or since its line is over
  abbrev pub IsRefused : GroupMember M → GroupMember M → CastAnswer → Type 0
  IsRefused old new answer = (answer.wake ≡ 0) × (told new ≡ told old) × ((answer.status ≡ 3) ⊎ ((answer.status ≡ 6) × IsOver new.poster.to))

  -- The source is as it was. At any other member the message was posted once, or nothing was.
  abbrev pub Casts : M → ℕ → GroupMember M → GroupMember M → CastAnswer → Type 0
  Casts message source old new answer = (answer.member ≡ old.number) × (new.number ≡ old.number)
      × MatchBool (old.number == source)
      ((answer.status ≡ 11) × (answer.wake ≡ 0) × (new ≡ old))
      (SamePoster old.poster.to new.poster.to × (IsPosted message old new answer ⊎ IsRefused old new answer))

  abbrev pub CastsAt : M → ℕ → Option (GroupMember M) → Option (GroupMember M) → Option CastAnswer → Type 0
  CastsAt message source (Some old) (Some new) (Some answer) = Casts message source old new answer
  CastsAt message source old new answer = ⊥

  -- so it is at each member, in the order of joining: one answer stands for each
  abbrev pub CastsAtEach : M → ℕ → List (GroupMember M) → List (GroupMember M) → List CastAnswer → Type 0
  CastsAtEach message source old new answers = (length new ≡ length old)
      × ((j : ℕ) → j < length old → CastsAt message source (slice_get old j) (slice_get new j) (slice_get answers j))

  -- exactly this member is gone
  abbrev pub Leaves : ℕ → List (GroupMember M) → List (GroupMember M) → Type 0
  Leaves number old new = (before : List (GroupMember M)) × (m : GroupMember M) × (behind : List (GroupMember M))
      × (m.number ≡ number) × (old ≡ before ++ m ∷ behind) × (new ≡ before ++ behind)
