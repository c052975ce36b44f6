mod VectorLaws
