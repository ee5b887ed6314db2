-- Need not be believed: what a method of a writer that writes a text leaves.
use Rattle.std.specs.Prelude.{List, ◌≡◌, ℕ, ◌+◌, ◌-◌, ◌^◌, ◌<◌, length, min}
use Rattle.std.proofs.lemmas.List.Edits.{sets}
use Rattle.text.specs.declared.writer.Writer.{Writer}

-- The text stands in the same buffer from the writer's place on, as far as the buffer reaches, and all else is as it was; the new place is the
-- one after the text, whether the buffer reaches so far or not, or the largest number of 64 bits where that is less. So the place of a writer
-- over no byte gives the text's length.
pub record Put (old : Writer) (text : List ℕ) (new : Writer) : Type 0 where
  pub buffer : new.out.ghost_name ≡ old.out.ghost_name
  pub long : length old.out.now < 2 ^ 64
  pub out_is : new.out.now ≡ sets old.out.now old.at text
  pub at_is : new.at ≡ min (old.at + length text) (2 ^ 64 - 1)
