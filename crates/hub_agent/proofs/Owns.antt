-- How ends are counted along a log.
use Rattle.std.proofs.Common.{◌≡◌, ◌≤◌, ℕ, ◌+◌, ◌-◌, ◌==◌, cond, List, [], ◌++◌, length, take, sym, refl, subst, ⊎_elim, arith}
use Rattle.std.proofs.lemmas.List.Sums.{sum_by-append, sum_by-take-le}
use Rattle.std.proofs.lemmas.List.{take-append-le}
use Rattle.std.proofs.Math.Seq.{take-append-add}
use Rattle.std.proofs.lemmas.Bool.{cases_lt}
use Rattle.hub_envelope.specs.declared.ids.EndId.{EndId}
use Rattle.hub_trace.specs.declared.log_entry.LogEntry.{LogEntry}
use Rattle.hub_agent.specs.Owning.{LeavesOwn, gained, gained_by, lost, lost_by, times}

pub times_both : (e : ℕ) (xs ys : List EndId) → times e (xs ++ ys) ≡ times e xs + times e ys
times_both e xs ys = sum_by-append (λ (end : EndId). cond (end.0 == e) 1 0) xs ys

pub lost_both : (e : ℕ) (xs ys : List LogEntry) → lost e (xs ++ ys) ≡ lost e xs + lost e ys
lost_both e xs ys = sum_by-append (lost_by e) xs ys

pub gained_both : (e : ℕ) (xs ys : List LogEntry) → gained e (xs ++ ys) ≡ gained e xs + gained e ys
gained_both e xs ys = sum_by-append (gained_by e) xs ys

-- where nothing is gained, what is lost in the end was there
pub only_lost : (own left : ℕ → ℕ) (entries : List LogEntry) → ((e : ℕ) → gained e entries ≡ 0) → ((e : ℕ) → left e + lost e entries ≤ own e + gained e entries) → LeavesOwn own entries left
only_lost own left entries none total = (
  λ n e.
      let less = sum_by-take-le (lost_by e) entries n in
      let all = total e in
      let no = none e in
      omega (arith, less, all, no),
  total,
)

-- where nothing is lost
pub only_gained : (own left : ℕ → ℕ) (entries : List LogEntry) → ((e : ℕ) → lost e entries ≡ 0) → ((e : ℕ) → left e + lost e entries ≤ own e + gained e entries) → LeavesOwn own entries left
only_gained own left entries none total = (
  λ n e.
      let less = sum_by-take-le (lost_by e) entries n in
      let no = none e in
      omega (arith, less, no),
  total,
)

pub leaves_none : (own : ℕ → ℕ) → LeavesOwn own [] own
leaves_none own = only_lost own own [] (λ e. refl) (λ e. omega arith)

pub leaves_both : (own between left : ℕ → ℕ) (xs ys : List LogEntry) → LeavesOwn own xs between → LeavesOwn between ys left → LeavesOwn own (xs ++ ys) left
leaves_both own between left xs ys (first, some) (then, rest) = (
  λ n e.
      ⊎_elim
      (λ below.
      let le : n ≤ length xs = omega (arith, below) in
      subst (λ (es : List LogEntry). lost e es ≤ own e + gained e es) (sym (take-append-le n xs ys le)) (first n e))
      (λ above.
      let more = n - length xs in
      let all : length xs + more ≡ n = omega (arith, above) in
      subst (λ m. lost e (take m (xs ++ ys)) ≤ own e + gained e (take m (xs ++ ys))) all
      (subst (λ (es : List LogEntry). lost e es ≤ own e + gained e es) (sym (take-append-add xs ys more))
      (let a = lost_both e xs (take more ys) in
      let b = gained_both e xs (take more ys) in
      let c = some e in
      let d = then more e in
      omega (arith, a, b, c, d))))
      (cases_lt n (length xs)),
  λ e.
      let a = lost_both e xs ys in
      let b = gained_both e xs ys in
      let c = some e in
      let d = rest e in
      omega (arith, a, b, c, d),
)
