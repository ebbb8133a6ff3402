-- The picture of a text: what stands in it, and how it is written.
-- document: SVG; drawn: a word that stands in the picture
use Rattle.std.specs.Prelude.{◌≡◌, ℕ, List}
use Rattle.su_explained.specs.declared.reading.Line.{Line}
use Rattle.su_draw.specs.declared.shapes.Picture.{Picture}
use Rattle.su_explained.specs.TextLines.{AreLinesOf}
use Rattle.su_draw.specs.Once.{StandOnce, things_in_shapes}
use Rattle.su_draw.specs.Promises.{ArrowsJoin, KeepsPromises, HeadingsStand, SourcesStand, CoreIsRinged}
use Rattle.su_draw.specs.Signs.{signs_of, signs_in}
use Rattle.su_draw.specs.Terms.{kept_lines}
use Rattle.su_draw.specs.Svg.{svg_text}
use Rattle.su_draw.specs.Xml.{IsDocument}

-- the text is read as lines, each word of which that is drawn stands in a picture once; the picture keeps its promises; the document is that picture's, and well-formed
pub record IsPictureOf (text document : List ℕ) : Type 0 where
  pub lines : List Line
  pub are_lines : AreLinesOf text lines
  pub picture : Picture
  pub once : StandOnce lines (things_in_shapes picture.shapes)
  pub arrows : ArrowsJoin lines picture.shapes
  pub sources : SourcesStand lines picture.shapes
  pub promises : KeepsPromises lines picture.shapes
  pub headings : HeadingsStand lines picture.helps picture.shapes
  pub core : CoreIsRinged lines picture.shapes
  pub legend : signs_of picture.legend ≡ signs_in picture.shapes
  pub is : document ≡ svg_text picture
  pub is_document : IsDocument document

-- so, but without the rows that aren't kept and the folds: each drawn word of the other lines stands in the picture once
pub record IsKeptPictureOf (text document : List ℕ) : Type 0 where
  pub lines : List Line
  pub are_lines : AreLinesOf text lines
  pub picture : Picture
  pub once : StandOnce (kept_lines lines) (things_in_shapes picture.shapes)
  pub promises : KeepsPromises (kept_lines lines) picture.shapes
  pub headings : HeadingsStand (kept_lines lines) picture.helps picture.shapes
  pub core : CoreIsRinged (kept_lines lines) picture.shapes
  pub legend : signs_of picture.legend ≡ signs_in picture.shapes
  pub is : document ≡ svg_text picture
  pub is_document : IsDocument document
