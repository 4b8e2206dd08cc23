-- When ends may be the ports of a log line, as a test.
use Rattle.std.specs.Prelude.{ℕ, ◌==◌, ◌&&◌, nat_le, not, List, [], ◌∷◌, length, Bool, true}
use Rattle.std.specs.List.{list_all, list_any}
use Rattle.hub_envelope.specs.declared.ids.EndId.{EndId}
use Rattle.hub_envelope.specs.declared.limits.TheConstants.{MAX_PORTS}
use Rattle.hub_trace.specs.declared.limits.TheConstants.{MAX_END}

-- whether the end of that number is among the ends
abbrev pub lists_end : List EndId → ℕ → Bool
lists_end ends n = list_any (λ e. e.0 == n) ends

abbrev pub are_ends : List EndId → Bool
are_ends ends = list_all (λ e. nat_le e.0 MAX_END) ends

-- whether no end stands twice
abbrev pub are_distinct : List EndId → Bool
are_distinct [] = true
are_distinct (e ∷ ends) = not (lists_end ends e.0) && are_distinct ends

-- whether the ends are known, different and not too many
abbrev pub is_port_list : List EndId → Bool
is_port_list ends = nat_le (length ends) MAX_PORTS && (are_ends ends && are_distinct ends)
