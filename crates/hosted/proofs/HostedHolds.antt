-- THE CALLS FROM C, proved: the statement is specs/Hosted.antt.
-- Assumes nothing.
use Rattle.images.proofs.ImageLaws as reader
use Rattle.writerimages.proofs.WriterLaws as writer
use Rattle.hosted.specs.Hosted.{Hosted}
use Rattle.hosted.proofs.ReadingCalls.{reads_by, reads_within_by}
use Rattle.hosted.proofs.WritingCalls.{opens_by, adds_by, packs_by_lem, closes_by, adds_many_by}
use Rattle.hosted.proofs.LookingCalls.{checks_by, lists_by}
use Rattle.hosted.proofs.ReaderCourses.{read_never, within_never}
use Rattle.hosted.proofs.WriterCourses.{open_never, add_never, many_never, pack_never, close_never}

pub hosted : Hosted
hosted = record {
  reader_back = reader.state_image;
  reader_given = reader.image_given;
  reader_image = reader.image_state;
  reader_held = reader.bytes_held;
  writer_back = writer.state_image;
  writer_given = writer.image_given;
  writer_image = writer.image_state;
  writer_held = writer.bytes_held;
  apart = writer.never_both;
  reads_are = λ st h line room event long. reads_by st h line room event long;
  reads_within_are = λ a st h line room event long. reads_within_by st h line room event long a;
  opens_are = λ w h f v n t held line. opens_by w h f v n t held line;
  adds_are = λ w h kind vs line. adds_by w h kind vs line;
  packs_are = λ w h did second vs line. packs_by_lem w h did second vs line;
  closes_are = λ w h line. closes_by w h line;
  adds_many_are = λ w h blocks line k. adds_many_by w h blocks line k;
  checks_are = λ system mode line header long. checks_by system mode line header long;
  lists_are = λ system mode line out listed long. lists_by system mode line out listed long;
  reads_never_2 = read_never;
  reads_within_never_2 = within_never;
  opens_never_2 = open_never;
  adds_never_2 = add_never;
  packs_never_2 = pack_never;
  closes_never_2 = close_never;
  adds_many_never_2 = many_never;
}
