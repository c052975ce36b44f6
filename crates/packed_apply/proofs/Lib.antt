mod ApplyLaws
