use Rattle.std.proofs.Common.{◌≡◌, ◌+◌, ◌*◌, ◌/◌, Some, None, slice_index, subst, sym, arith, rules, ℕ, Option}
use Rattle.hub_ready.specs.Marking.{ClearBetween, IsNextMarked, IsFirstFrom}
use Rattle.hub_ready.proofs.BitLemmas.{next-none, next-by}
use Rattle.hub_ready.proofs.marks.Marks.next_from.Goals as goal

pub returns-in_err-place : goal.returns-in_err-place
returns-in_err-place c =
    let words = c.self.inside.words.items in
    let names = c.self.inside.names.items in
    let here : ClearBetween words c.args.key (c.args.key / 64 * 64 + 64) = search rules in
    let later : IsNextMarked names (c.args.key / 64 + 1) None = search rules in
    let none : IsNextMarked words c.args.key None = next-none words names c.args.key (c.args.key / 64) c.self.invariant here later in
    let is : c.from_residual.result ≡ None = search rules in
    let view : words ≡ c.args.self.now = search rules in
    subst (λ m. IsNextMarked m c.args.key c.from_residual.result) view (subst (IsNextMarked words c.args.key) (sym is) none)

pub returns : goal.returns
returns c =
    let words = c.self.inside.words.items in
    let names = c.self.inside.names.items in
    let here : ClearBetween words c.args.key (c.args.key / 64 * 64 + 64) = search rules in
    let later : IsFirstFrom names (c.args.key / 64 + 1) c.in_ok-place.place = search rules in
    let found : Option ℕ = c.next_set_bit_in_word-2.result in
    let some : (key : ℕ) → found ≡ Some key → (key / 64 ≡ c.in_ok-place.place) × IsFirstFrom words (c.in_ok-place.place * 64 + 0) key = λ key is. search rules in
    let none : found ≡ None → slice_index words c.in_ok-place.place ≡ 0 = λ is. search rules in
    let view : words ≡ c.args.self.now = search rules in
    subst (λ m. IsNextMarked m c.args.key c.next_set_bit_in_word-2.result) view
    (next-by words names c.args.key (c.args.key / 64) c.in_ok-place.place found c.self.invariant (omega arith) here later some none)
