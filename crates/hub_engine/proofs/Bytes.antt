-- Known bytes that are read and written piece by piece.
use Rattle.std.proofs.Common.{◌≡◌, ℕ, ◌-◌, List, [], ◌++◌, length, take, drop, Option, Some, None, refl, sym, ap, ◌∙◌, append_assoc, arith}
use Rattle.std.proofs.lemmas.Grind.{common_steps}
use Rattle.std.proofs.lemmas.List.{append-nil}
use Rattle.std.specs.Io.KnownBytes.{Appends, Keeps, Consumes, IsAtEnd}
use Rattle.hub_engine.specs.IsInput.{IsInput}
use Rattle.hub_engine.specs.Beginning.{AppendsBeginning}

pub appends_nothing : (old : Option (List ℕ)) → Appends old old []
appends_nothing None = tt
appends_nothing (Some xs) = sym (append-nil xs)

pub appends_more : (old mid new : Option (List ℕ)) (a b : List ℕ) → Appends old mid a → Appends mid new b → Appends old new (a ++ b)
appends_more None mid new a b h k = tt
appends_more (Some xs) None new a b h k = absurd h
appends_more (Some xs) (Some ys) None a b h k = absurd k
appends_more (Some xs) (Some ys) (Some zs) a b h k = k ∙ ap (λ s. s ++ b) h ∙ append_assoc xs a b

pub appends_kept : (old mid new : Option (List ℕ)) (a : List ℕ) → Appends old mid a → Keeps mid new → Appends old new a
appends_kept None mid new a h k = tt
appends_kept (Some xs) None new a h k = absurd h
appends_kept (Some xs) (Some ys) None a h k = absurd k
appends_kept (Some xs) (Some ys) (Some zs) a h k = k ∙ h

pub begins_after : (old mid new : Option (List ℕ)) (a text : List ℕ) → Appends old mid a → AppendsBeginning mid new text → AppendsBeginning old new (a ++ text)
begins_after old mid new a text h k = (a ++ k.0, k.1, ap (λ s. a ++ s) k.2 ∙ sym (append_assoc a k.0 k.1), appends_more old mid new a k.0 h k.3)

pub begins_kept : (old mid new : Option (List ℕ)) (a text : List ℕ) → Appends old mid a → Keeps mid new → AppendsBeginning old new (a ++ text)
begins_kept old mid new a text h k = (a, text, refl, appends_kept old mid new a h k)

pub begins_nothing : (old : Option (List ℕ)) (text : List ℕ) → AppendsBeginning old old text
begins_nothing old text = ([], text, refl, appends_nothing old)

pub begins_longer : (old new : Option (List ℕ)) (text more : List ℕ) → AppendsBeginning old new text → AppendsBeginning old new (text ++ more)
begins_longer old new text more h = (h.0, h.1 ++ more, ap (λ s. s ++ more) h.2 ∙ append_assoc h.0 h.1 more, h.3)

pub all_read : (old new : Option (List ℕ)) (a : List ℕ) → Consumes old new a → IsAtEnd new → IsInput old a
all_read None new a h k = tt
all_read (Some xs) None a h k = absurd h
all_read (Some xs) (Some ys) a h k = h ∙ ap (λ s. a ++ s) k ∙ append-nil a

pub whole_rest : (bytes : List ℕ) (n : ℕ) → take (length bytes - n) (drop n bytes) ≡ drop n bytes
whole_rest bytes n = grind (arith, common_steps)
