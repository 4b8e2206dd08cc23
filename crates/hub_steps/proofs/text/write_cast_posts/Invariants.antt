use Rattle.std.proofs.Common.{◌≡◌, ◌++◌, take}
use Rattle.std.specs.Prelude.{string_bytes}
use Rattle.hub_steps.specs.ShownText.{posts_text}
use Rattle.hub_steps.proofs.text.write_cast_posts.Given as goal

-- the posts so far were written
abbrev pub invariant-loop-post : goal.invariant-loop-post
invariant-loop-post l = string_bytes l.text ≡ string_bytes l.fn.text ++ posts_text (take l.post-index l.posts)
