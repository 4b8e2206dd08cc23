-- What a log closes once an entry was added.
use Rattle.std.proofs.Common.{◌≡◌, ℕ, List, [], ◌∷◌, ◌++◌, ◌||◌, ap, ◌∙◌}
use Rattle.std.specs.Prelude.{◌==◌}
use Rattle.std.specs.List.{list_any}
use Rattle.hub_trace.specs.declared.log_entry.LogEntry.{LogEntry}
use Rattle.hub_trace.specs.Closings.{closes_one, closings, is_closed_by}
use Rattle.hub_trace.proofs.Adding.{any_append, closed_by, closings_more}

-- an entry more closes an end where it is one of these
pub closed_more : (entries : List LogEntry) (e : LogEntry) (end : ℕ) → is_closed_by (entries ++ e ∷ []) end ≡ (is_closed_by entries end || closes_one (λ x. x == end) e)
closed_more entries e end =
    ap (list_any (λ x. x.0 == end)) (closings_more entries e) ∙ any_append (λ x. x.0 == end) (closings entries) (closings (e ∷ []))
    ∙ ap (λ b. is_closed_by entries end || b) (closed_by e end)
