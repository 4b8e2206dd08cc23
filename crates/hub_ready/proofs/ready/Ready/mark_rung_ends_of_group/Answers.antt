use Rattle.std.proofs.Common.{arith, rules, ap, ◌≡◌, ◌++◌, ◌∙◌}
use Rattle.hub_ready.proofs.FindLemmas.{clear-left, clear-right, empties-joined, finds-kept, keeps-both, marks-found, named-both, stepped-both, taken-both, words-joined}
use Rattle.hub_ready.proofs.ready.Ready.mark_rung_ends_of_group.Goals as goal

pub loop-word-preserved : goal.loop-word-preserved
loop-word-preserved c =
    let kept = c.loop-word.invariant in
    let did = c.mark_rung_ends_of_word.ensures in
    let front = kept.found.0 in
    let back = did.found.0 in
    let new = c.mark_rung_ends_of_word.new.self in
    let listed : new.listed.items ≡ c.loop-word.self.listed.items = search rules in
    record {
      listed = did.listed ∙ kept.listed;
      keeps = keeps-both _ c.loop-word.self.marks _ kept.keeps did.keeps;
      found = (
        front ++ back,
        stepped-both _ c.loop-word.listener _ front back kept.found.1 did.found.1,
        words-joined _ c.loop-word.word _ new.listed.items new.marks (front ++ back)
            (finds-kept _ _ c.loop-word.self.listed.items _ c.loop-word.self.marks _ front (front ++ back) kept.found.2 listed did.keeps (λ end was. clear-left end front back was))
            (finds-kept _ _ new.listed.items _ new.marks _ back (front ++ back) did.found.2 (search rules) (search rules) (λ end was. clear-right end front back was)),
      );
      only = (
        kept.only.0 ++ did.only.0,
        stepped-both _ c.loop-word.listener _ kept.only.0 did.only.0 kept.only.1 did.only.1,
        marks-found c.args.self.now.listed.items _ _ c.loop-word.self.marks _ kept.only.0 did.only.0 (ap (λ l. l.items) kept.listed) kept.only.2 did.only.2,
      );
      marked = (
        kept.marked.0 ++ did.marked.0,
        stepped-both _ c.loop-word.listener _ kept.marked.0 did.marked.0 kept.marked.1 did.marked.1,
        taken-both c.loop-word.self.listed.items new.listed.items c.loop-word.self.marks new.marks kept.marked.0 did.marked.0 listed did.keeps kept.marked.2 did.marked.2,
      );
      emptied = (
        kept.emptied.0 ++ did.emptied.0,
        stepped-both _ c.loop-word.listener _ kept.emptied.0 did.emptied.0 kept.emptied.1 did.emptied.1,
        empties-joined _ c.loop-word.word _ kept.emptied.0 did.emptied.0 kept.emptied.2 did.emptied.2,
        named-both kept.emptied.0 did.emptied.0 kept.emptied.3 did.emptied.3,
      );
    }

pub returns-clause-emptied : goal.returns-clause-emptied
returns-clause-emptied c =
    let kept = c.loop-word.invariant.emptied in
    (kept.0, kept.1, λ word from below. kept.2 word from (omega (arith, below, c.loop-word-test.false)), kept.3)
