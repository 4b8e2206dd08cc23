use Rattle.std.proofs.Common.{◌≡◌, ℕ, false, rules, subst}
use Rattle.slab.specs.Slab.{get}
use Rattle.hub_ready.specs.Finding.{LeadsTo}
use Rattle.hub_loop.specs.Looking.{IsEndOf, IsSlotOf}
use Rattle.hub_loop.proofs.Looks.{found-marked, if-none, none-found, nowhere, not-so, not-there}
use Rattle.hub_loop.proofs.ends.HeldEnds.find_key_of_end.Goals as goal
use Rattle.hub_loop.proofs.ends.HeldEnds.find_key_of_end.Goals.{in-Some+else-is_end_of_kind_and_number, in_default}

pub returns : goal.returns
returns c =
    let self = c.args.self.now in
    let listed = self.ready.listed.items in
    let Is = IsEndOf c.args.kind c.args.end in
    let elsewhere : (key : ℕ) → LeadsTo listed c.args.end key → IsSlotOf Is (get self.held key) → ⊥ =
    elim c.match-key_of_end.branch [
      | in-Some+else-is_end_of_kind_and_number w ↦ let no : w.is_end_of_kind_and_number.result ≡ false = search rules in not-there Is self.held listed c.args.end c.key_of_end.result w.in-Some.key c.key_of_end.ensures w.in-Some.is (subst (λ slot. IsSlotOf Is slot → ⊥) w.get.ensures (not-so w.is_end_of_kind_and_number.result w.is_end_of_kind_and_number.ensures no))
      | in_default w ↦ λ key leads here. nowhere listed c.args.end c.key_of_end.result c.key_of_end.ensures w.in_default.not-Some key leads
    ] in
    found-marked Is self.held c.find_marked_key_of_end.result c.find_marked_key_of_end.ensures.some
    (if-none c.find_marked_key_of_end.result c.find_marked_key_of_end.ensures.none (λ marked. none-found self.held self.ready c.args.kind c.args.end self.reached elsewhere marked))
